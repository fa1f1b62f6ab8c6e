-- The result for a game.
use Rattle.std.specs.Prelude.{◌≡◌, ℕ, Bool, true, false, List, ◌++◌, Result, Ok, Err}
use Rattle.study_reading.specs.declared.lines.LineFault.TheVariants as line_fault
use Rattle.study_reading.specs.declared.moves.MoveFault.TheVariants as move_fault
use Rattle.study_reading.specs.declared.token_effects.Reason.TheVariants as reason
use Rattle.study_reading.specs.declared.movetext.Stop.{Stop}
use Rattle.study_reading.specs.declared.movetext.Stop.TheVariants as stop
use Rattle.study_import.specs.Blocks.{Block}

-- want of memory
abbrev pub is_of_memory : Stop → Bool
is_of_memory (stop.Taking (reason.Move move_fault.OutOfMemory)) = true
is_of_memory (stop.Taking (reason.Line line_fault.OutOfMemory)) = true
is_of_memory other = false

-- the block was added, unless there was no memory
abbrev pub Adds : {E : Type 0} → Result ℕ E → List ℕ → List ℕ → Block → Type 0
Adds (Ok studies) old new block = (new ≡ old ++ block.text) × (studies ≡ block.studies)
Adds (Err error) old new block = Unit {0}

-- The result for a game's moves.
use Rattle.std.specs.Prelude.{◌≡◌, ℕ, Bool, List, Result, Ok, Err}
use Rattle.study_reading.specs.declared.lines.LineFault.TheVariants as line_fault
use Rattle.study_reading.specs.declared.moves.MoveFault.TheVariants as move_fault
use Rattle.study_reading.specs.declared.token_effects.Reason.TheVariants as reason
use Rattle.study_reading.specs.declared.movetext.MovesFault.{MovesFault}
use Rattle.study_reading.specs.declared.movetext.Stop.{Stop}
use Rattle.study_reading.specs.declared.movetext.Stop.TheVariants as stop
use Rattle.study_reading.specs.declared.token_effects.Reason.{Reason}
use Rattle.study_reading.specs.Notes.{GameRead, GameTaken}
use Rattle.study_reading.specs.Movetext.{Ended}

-- a reported fault, or want of memory, which ends the run
abbrev pub IsReported : {S : Type 0} → Stop → Result (Ended S) MovesFault → ℕ → Type 0
IsReported (stop.Taking (reason.Move move_fault.OutOfMemory)) expected left = Unit {0}
IsReported (stop.Taking (reason.Line line_fault.OutOfMemory)) expected left = Unit {0}
IsReported why expected left = expected ≡ Err (record { why = why; left = left })

abbrev pub Ends : {T S : Type 0} → (T → List ℕ) → Result T MovesFault → Result (Ended S) MovesFault → GameRead S → Type 0
Ends text (Ok x) expected new = expected ≡ Ok (record { game = new; behind = text x })
Ends text (Err fault) expected new = IsReported fault.why expected fault.left

-- the result for a token, and the state after it, unless there was no memory, which ends the run
abbrev pub TakesIn : {S : Type 0} → Result Bool Reason → Result (GameTaken S) Reason → GameRead S → Type 0
TakesIn (Ok ended) expected new = expected ≡ Ok (record { game = new; ended = ended })
TakesIn (Err (reason.Move move_fault.OutOfMemory)) expected new = Unit {0}
TakesIn (Err (reason.Line line_fault.OutOfMemory)) expected new = Unit {0}
TakesIn (Err fault) expected new = expected ≡ Err fault

-- A game whose moves have a fault has the block of this fault.
use Rattle.std.proofs.Common.{◌≡◌, ℕ, true, false, List, Result, Ok, Err, IsErr, sym, subst, inl, inr}
use Rattle.std.specs.Prelude.{Option}
use Rattle.std.proofs.lemmas.Bool.{cases_Bool, false≢true}
use Rattle.std.proofs.lemmas.Result.{IfOk-from_err}
use Rattle.study_notation.specs.declared.start.Start.{Start}
use Rattle.study_import.specs.declared.importer.Choice.{Choice}
use Rattle.study_games.specs.declared.language.Language.{Language}
use Rattle.study_reading.specs.declared.lines.LineFault.TheVariants as line_fault
use Rattle.study_reading.specs.declared.moves.MoveFault.TheVariants as move_fault
use Rattle.study_reading.specs.declared.token_effects.Reason.TheVariants as reason
use Rattle.study_reading.specs.declared.movetext.MovesFault.{MovesFault}
use Rattle.study_reading.specs.declared.movetext.Stop.{Stop}
use Rattle.study_reading.specs.declared.movetext.Stop.TheVariants as stop
use Rattle.study_import.specs.FewMen.{Ended}
use Rattle.study_reading.specs.Movetext as movetext
use Rattle.study_reading.specs.MovesRead.{IsReported}
use Rattle.study_import.specs.Blocks.{Entry, faulty_block, read_block}
use Rattle.study_import.specs.BlocksRead.{is_of_memory, Adds}

pub reported_is : {S : Type 0} (why : Stop) (expected : Result (movetext.Ended S) MovesFault) (left : ℕ) → is_of_memory why ≡ false → IsReported why expected left
    → expected ≡ Err (record { why = why; left = left })
reported_is (stop.Taking (reason.Move move_fault.OutOfMemory)) expected left none h = absurd (false≢true (sym none))
reported_is (stop.Taking (reason.Line line_fault.OutOfMemory)) expected left none h = absurd (false≢true (sym none))
reported_is why expected left none h = h

pub stopped_again : {E : Type 0} (r : Result ℕ E) (old new : List ℕ) (c : Choice) (e : Entry) (start : Start) (l : Option Language) (fault : MovesFault)
    (expected : Result Ended MovesFault) → IsReported fault.why expected fault.left → (is_of_memory fault.why ≡ true → IsErr r)
    → Adds r old new (faulty_block c e start fault) → Adds r old new (read_block c e start l expected)
stopped_again (Err error) old new c e start l fault expected h memory adds = tt
stopped_again {E = E} (Ok studies) old new c e start l fault expected h memory adds = elim (cases_Bool (is_of_memory fault.why)) [
  | inl is ↦ absurd (IfOk-from_err {E = E} (Ok studies) (λ x. ⊥) (memory is))
  | inr other ↦ subst (λ (x : Result Ended MovesFault). Adds {E = E} (Ok studies) old new (read_block c e start l x))
      (sym (reported_is fault.why expected fault.left other h)) adds
]

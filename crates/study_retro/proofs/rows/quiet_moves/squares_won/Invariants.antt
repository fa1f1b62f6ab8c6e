use Rattle.std.proofs.Common.{◌≡◌, ℕ, ◌+◌, ◌*◌, ◌≤◌, slice_index}
use Rattle.study_values.specs.Cells.{value_of}
use Rattle.study_values.specs.declared.value.Value.TheVariants.{Win}
use Rattle.study_retro.proofs.SquaresKept.{AreKeptExcept}
use Rattle.study_retro.proofs.rows.quiet_moves.squares_won.Given as goal

abbrev pub invariant-loop-square : goal.invariant-loop-square
invariant-loop-square l = AreKeptExcept l.fn.set
    (λ y. (m : ℕ) × (value_of (slice_index l.cells (64 * l.row + y)) ≡ Win m) × (m ≤ l.level))
    (λ y. ((m : ℕ) × (value_of (slice_index l.cells (64 * l.row + y)) ≡ Win m) × (m ≤ l.level)) → ⊥) l.square-iterator l.won

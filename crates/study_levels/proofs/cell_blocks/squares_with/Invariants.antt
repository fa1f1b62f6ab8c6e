use Rattle.std.proofs.Common.{◌≡◌, ℕ, ◌<◌, ◌≤◌, ◌-◌, true, length, slice_index}
use Rattle.study_board.specs.Sets.{has}
use Rattle.study_levels.proofs.cell_blocks.squares_with.Given as goal

abbrev pub invariant-loop-at : goal.invariant-loop-at
invariant-loop-at l = record {
  within : l.at ≤ length l.cells;
  here : (y : ℕ) → y < 64 → has l.set y ≡ true → (y < length l.cells) × (slice_index l.cells y ≡ l.byte);
  all : (y : ℕ) → y < l.at → slice_index l.cells y ≡ l.byte → has l.set y ≡ true;
}

abbrev pub decreases-loop-at : goal.decreases-loop-at
decreases-loop-at l = length l.cells - l.at

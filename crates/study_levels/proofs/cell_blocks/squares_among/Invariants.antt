use Rattle.std.proofs.Common.{◌≡◌, ℕ, ◌<◌, ◌≤◌, ◌-◌, true, length, slice_index}
use Rattle.study_board.specs.Sets.{has}
use Rattle.study_levels.proofs.cell_blocks.squares_among.Given as goal

abbrev pub invariant-loop-place : goal.invariant-loop-place
invariant-loop-place l = record {
  above : l.from ≤ l.place;
  within : l.place ≤ l.end;
  here : (y : ℕ) → y < 64 → has l.set y ≡ true → (y < length l.cells) × (slice_index l.cells y ≡ l.byte);
  all : (y : ℕ) → l.from ≤ y → y < l.place → slice_index l.cells y ≡ l.byte → has l.set y ≡ true;
}

abbrev pub decreases-loop-place : goal.decreases-loop-place
decreases-loop-place l = l.end - l.place

use Rattle.std.proofs.Common.{◌≡◌, ℕ, ◌+◌, ◌*◌, ◌<◌, ◌⊎◌, true, false, length, slice_index}
use Rattle.study_board.specs.Sets.{has}
use Rattle.study_levels.proofs.propagate.clear_in_row.Given as goal

abbrev pub invariant-loop-square : goal.invariant-loop-square
invariant-loop-square g l = record {
  among : (y : ℕ) → y < 64 → has l.square-iterator y ≡ true → has l.fn.squares y ≡ true;
  size : length l.cells ≡ length l.initial.cells;
  each : (i : ℕ) → (slice_index l.cells i ≡ slice_index l.initial.cells i)
      ⊎ ((y : ℕ) × (y < 64) × (has l.fn.squares y ≡ true) × (i ≡ 64 * l.row + y)) × (slice_index l.cells i ≡ 0);
  done : (y : ℕ) → y < 64 → has l.fn.squares y ≡ true → has l.square-iterator y ≡ false → slice_index l.cells (64 * l.row + y) ≡ 0;
}

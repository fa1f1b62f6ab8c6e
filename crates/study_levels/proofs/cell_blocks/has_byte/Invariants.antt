use Rattle.std.proofs.Common.{◌≡◌, ◌≢◌, ℕ, ◌<◌, false, slice_index}
use Rattle.study_levels.proofs.cell_blocks.has_byte.Given as goal

abbrev pub invariant-loop-cell : goal.invariant-loop-cell
invariant-loop-cell l = l.found ≡ false → (i : ℕ) → i < l.cell-index → slice_index l.cells i ≢ l.byte

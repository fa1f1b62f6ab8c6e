use Rattle.std.proofs.Common.{ℕ, ◌<◌, slice_index}
use Rattle.study_levels.proofs.level_cells.least_above.Given as goal

abbrev pub invariant-loop-cell : goal.invariant-loop-cell
invariant-loop-cell l = (i : ℕ) → i < l.cell-index → l.byte < slice_index l.cells i → l.least < slice_index l.cells i

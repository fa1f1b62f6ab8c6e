use Rattle.std.proofs.Common.{◌≡◌, ℕ, ◌<◌, ◌≤◌, false, slice_index}
use Rattle.study_levels.proofs.level_cells.has_below.Given as goal

abbrev pub invariant-loop-each : goal.invariant-loop-each
invariant-loop-each l = l.found ≡ false → (i : ℕ) → i < l.each-index → l.byte ≤ slice_index l.bytes i

use Rattle.std.proofs.Common.{ℕ, ◌<◌, ◌≤◌, ◌-◌, length, slice_index}
use Rattle.study_levels.proofs.level_cells.next_below.Given as goal

abbrev pub invariant-loop-at : goal.invariant-loop-at
invariant-loop-at l = record {
  above : l.from ≤ l.at;
  within : l.at ≤ length l.bytes;
  none : (i : ℕ) → l.from ≤ i → i < l.at → l.byte ≤ slice_index l.bytes i;
}

abbrev pub decreases-loop-at : goal.decreases-loop-at
decreases-loop-at l = length l.bytes - l.at

abbrev pub invariant-loop-at-2 : goal.invariant-loop-at-2
invariant-loop-at-2 l = record {
  above : l.from ≤ l.at;
  within : l.at ≤ length l.bytes;
  none : (i : ℕ) → l.from ≤ i → i < l.at → l.byte ≤ slice_index l.bytes i;
}

abbrev pub decreases-loop-at-2 : goal.decreases-loop-at-2
decreases-loop-at-2 l = length l.bytes - l.at

use Rattle.std.proofs.Common.{length}
use Rattle.study_marks.proofs.fault_sums.+counted_from_depth.Given as goal

abbrev pub decreases-counted_from_depth : goal.decreases-counted_from_depth
decreases-counted_from_depth l = length l.steps.now

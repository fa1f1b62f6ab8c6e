use Rattle.std.proofs.Common.{length}
use Rattle.study_head.proofs.solution.+turn_depth.Given as goal

abbrev pub decreases-turn_depth : goal.decreases-turn_depth
decreases-turn_depth l = length l.steps.now

use Rattle.std.proofs.Common.{length}
use Rattle.study_head.proofs.solution.+is_main.Given as goal

abbrev pub decreases-is_main : goal.decreases-is_main
decreases-is_main l = length l.steps.now

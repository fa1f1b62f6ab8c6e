use Rattle.std.proofs.Common.{length}
use Rattle.study_tails.proofs.study.+descend.Given as goal

abbrev pub decreases-descend : goal.decreases-descend
decreases-descend g l = length l.steps.now

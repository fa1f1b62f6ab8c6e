use Rattle.std.proofs.Common.{length}
use Rattle.study_head.proofs.solution.+main_defence.Given as goal

abbrev pub decreases-main_defence : goal.decreases-main_defence
decreases-main_defence l = length l.list.now

use Rattle.std.proofs.Common.{length}
use Rattle.study_head.proofs.solution.+first_lasting.Given as goal

abbrev pub decreases-first_lasting : goal.decreases-first_lasting
decreases-first_lasting l = length l.list.now

use Rattle.std.proofs.Common.{length}
use Rattle.study_tails.proofs.followed.+behind.Given as goal

abbrev pub decreases-behind : goal.decreases-behind
decreases-behind l = length l.first.now

use Rattle.std.proofs.Common.{length}
use Rattle.study_tails.proofs.followed.+subtree_at.Given as goal

abbrev pub decreases-subtree_at : goal.decreases-subtree_at
decreases-subtree_at g l = length l.steps.now

use Rattle.std.proofs.Common.{length}
use Rattle.study_tree.proofs.node.+add_below.Given as goal

-- the path grows shorter
abbrev pub decreases-add_below : goal.decreases-add_below
decreases-add_below g l = length l.steps.now

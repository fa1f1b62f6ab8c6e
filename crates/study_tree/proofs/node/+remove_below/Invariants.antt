use Rattle.std.proofs.Common.{length}
use Rattle.study_tree.proofs.node.+remove_below.Given as goal

-- the path grows shorter
abbrev pub decreases-remove_below : goal.decreases-remove_below
decreases-remove_below g l = length l.rest.now

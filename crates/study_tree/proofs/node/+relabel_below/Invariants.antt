use Rattle.std.proofs.Common.{length}
use Rattle.study_tree.proofs.node.+relabel_below.Given as goal

-- the path grows shorter
abbrev pub decreases-relabel_below : goal.decreases-relabel_below
decreases-relabel_below g l = length l.rest.now

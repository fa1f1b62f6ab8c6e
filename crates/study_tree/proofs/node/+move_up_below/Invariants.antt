use Rattle.std.proofs.Common.{length}
use Rattle.study_tree.proofs.node.+move_up_below.Given as goal

-- the path grows shorter
abbrev pub decreases-move_up_below : goal.decreases-move_up_below
decreases-move_up_below g l = length l.rest.now

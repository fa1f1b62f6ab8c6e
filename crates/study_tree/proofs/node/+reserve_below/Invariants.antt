use Rattle.std.proofs.Common.{length}
use Rattle.study_tree.proofs.node.+reserve_below.Given as goal

-- the path grows shorter
abbrev pub decreases-reserve_below : goal.decreases-reserve_below
decreases-reserve_below g l = length l.steps.now

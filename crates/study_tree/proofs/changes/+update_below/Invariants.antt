use Rattle.std.proofs.Common.{length}
use Rattle.study_tree.proofs.changes.+update_below.Given as goal

-- the path grows shorter
abbrev pub decreases-update_below : goal.decreases-update_below
decreases-update_below g l = length l.rest.now

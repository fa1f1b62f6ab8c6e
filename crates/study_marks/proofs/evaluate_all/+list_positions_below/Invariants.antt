use Rattle.std.proofs.Common.{◌≡◌, ◌≤◌, ◌-◌, ◌++◌}
use Rattle.study_tree.specs.Forest.{nodes_in}
use Rattle.study_marks.specs.Relabelled.{firsts, positions_in}
use Rattle.study_marks.proofs.evaluate_all.+list_positions_below.Given as goal

-- the nodes below are fewer
abbrev pub decreases-list_positions_below : goal.decreases-list_positions_below
decreases-list_positions_below g l = nodes_in l.node.now.below

-- the first nodes below are listed
abbrev pub invariant-loop-place : goal.invariant-loop-place
invariant-loop-place g l =
    (l.all.items ≡ l.fn.all.items ++ positions_in l.fn.position (firsts l.place l.fn.node.below)) × (l.place ≤ l.count)

abbrev pub decreases-loop-place : goal.decreases-loop-place
decreases-loop-place g l = l.count - l.place

use Rattle.std.proofs.Common.{◌≡◌, ◌≤◌, ◌-◌}
use Rattle.study_tree.specs.Forest.{nodes_in}
use Rattle.study_marks.proofs.FirstIllegalMove.{IsWhole}
use Rattle.study_marks.proofs.relabel.+find_illegal_move.Given as goal

-- the nodes below are fewer
abbrev pub decreases-find_illegal_move : goal.decreases-find_illegal_move
decreases-find_illegal_move g l = nodes_in l.node.now.below

abbrev pub invariant-loop-place : goal.invariant-loop-place
invariant-loop-place g l =
    IsWhole l.fn.position l.fn.node.below l.place × (l.steps.items ≡ l.fn.steps.items) × (l.place ≤ l.count)

abbrev pub decreases-loop-place : goal.decreases-loop-place
decreases-loop-place g l = l.count - l.place

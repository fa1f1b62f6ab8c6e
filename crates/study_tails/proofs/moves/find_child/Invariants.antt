use Rattle.std.proofs.Common.{◌≡◌, ◌≤◌, ◌-◌}
use Rattle.study_tree.specs.Edits.{width}
use Rattle.study_marks.specs.Study.{place_from}
use Rattle.study_marks.specs.FaultSums.{siblings_from}
use Rattle.study_tails.proofs.moves.find_child.Given as goal

-- no child so far has the move
abbrev pub invariant-loop-place : goal.invariant-loop-place
invariant-loop-place g l = record {
  within : l.place ≤ width l.node.below;
  later : place_from l.place l.m (siblings_from l.place l.node.below) ≡ place_from 0 l.m l.node.below;
}

abbrev pub decreases-loop-place : goal.decreases-loop-place
decreases-loop-place g l = width l.node.below - l.place

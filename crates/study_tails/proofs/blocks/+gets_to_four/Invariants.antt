use Rattle.std.proofs.Common.{◌≡◌, ◌≤◌, ◌-◌}
use Rattle.study_tree.specs.Forest.{nodes_in}
use Rattle.study_tree.specs.Edits.{width}
use Rattle.study_marks.specs.FaultSums.{siblings_from}
use Rattle.study_tails.specs.Blocks.{gets_to_four}
use Rattle.study_tails.proofs.blocks.+gets_to_four.Given as goal

abbrev pub decreases-gets_to_four : goal.decreases-gets_to_four
decreases-gets_to_four g l = nodes_in l.node.now.below

-- below the siblings so far are more than four men
abbrev pub invariant-loop-place : goal.invariant-loop-place
invariant-loop-place g l = record {
  within : l.place ≤ width l.node.below;
  later : gets_to_four l.position (siblings_from l.place l.node.below) ≡ gets_to_four l.position l.node.below;
}

abbrev pub decreases-loop-place : goal.decreases-loop-place
decreases-loop-place g l = width l.node.below - l.place

use Rattle.std.proofs.Common.{◌≡◌, ◌++◌, ◌≤◌, ◌-◌}
use Rattle.study_tree.specs.Forest.{nodes_in}
use Rattle.study_tree.specs.Edits.{width}
use Rattle.study_marks.specs.FaultSums.{siblings_from}
use Rattle.study_tails.specs.Lines.{insert_lines}
use Rattle.study_tails.proofs.lines.+add_inserts.Given as goal

abbrev pub decreases-add_inserts : goal.decreases-add_inserts
decreases-add_inserts g l = nodes_in l.node.now.below

-- the lines so far, and those of the siblings that are left
abbrev pub invariant-loop-place : goal.invariant-loop-place
invariant-loop-place g l = record {
  within : l.place ≤ width l.node.below;
  written : l.out ++ insert_lines l.before l.position l.steps l.place (siblings_from l.place l.node.below)
      ≡ l.fn.out ++ insert_lines l.before l.position l.steps 0 l.node.below;
}

abbrev pub decreases-loop-place : goal.decreases-loop-place
decreases-loop-place g l = width l.node.below - l.place

use Rattle.std.proofs.Common.{◌≡◌, ◌++◌, ◌≤◌, ◌-◌, map}
use Rattle.study_tree.specs.Forest.{nodes_in}
use Rattle.study_tree.specs.Edits.{width}
use Rattle.study_marks.specs.FaultSums.{siblings_from}
use Rattle.study_tails.specs.Tails.{tails_among}
use Rattle.study_tails.proofs.tails.+add_tails.Given as goal

abbrev pub decreases-add_tails : goal.decreases-add_tails
decreases-add_tails g l = nodes_in l.node.now.below

-- the tails so far, and those among the siblings that are left
abbrev pub invariant-loop-place : goal.invariant-loop-place
invariant-loop-place g l = record {
  within : l.place ≤ width l.node.below;
  listed : l.found.items ++ map (λ p. l.steps ++ p) (tails_among l.position l.place (siblings_from l.place l.node.below))
      ≡ l.fn.found.items ++ map (λ p. l.steps ++ p) (tails_among l.position 0 l.node.below);
}

abbrev pub decreases-loop-place : goal.decreases-loop-place
decreases-loop-place g l = width l.node.below - l.place

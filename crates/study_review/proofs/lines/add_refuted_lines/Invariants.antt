use Rattle.std.proofs.Common.{◌≡◌, ◌++◌, take}
use Rattle.std.specs.List.{flat_map}
use Rattle.study_review.specs.NodeFacts.{failing_moves}
use Rattle.study_facts.specs.Words.{refuted_line}
use Rattle.study_review.proofs.lines.add_refuted_lines.Given as goal

abbrev pub invariant-loop-x : goal.invariant-loop-x
invariant-loop-x g l = l.text ≡ l.fn.text
    ++ flat_map (refuted_line l.fn.steps l.fn.node.position.now) (failing_moves l.fn.node.aim.now l.fn.node.depth (take l.x-index l.evaluated))

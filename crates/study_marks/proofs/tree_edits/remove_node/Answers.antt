use Rattle.std.proofs.Common.{ap, ◌∙◌}
use Rattle.study_tree.specs.Tree.{plain_tree}
use Rattle.study_marks.specs.declared.node_label.NodeLabel.{NodeLabel}
use Rattle.study_marks.specs.BenchState.{evaluation_tree}
use Rattle.study_marks.proofs.SameShape.{mapped-without}
use Rattle.study_marks.proofs.ChildrenChanged.{removed-front, removed-off, removal-there}
use Rattle.study_marks.proofs.tree_edits.remove_node.Goals as goal

pub update_faults-requires-clause-found : goal.update_faults-requires-clause-found
update_faults-requires-clause-found g c =
    let t = plain_tree c.args.tree.now in
    removed-front t (plain_tree c.remove.new.self) c.args.steps.now c.in-Some.front.now c.in-Some.place.now
    c.in-Some.ensures.cases.0 c.in_ok-remove.ensures.removed
    (removal-there t c.args.steps.now c.remove.result c.in_ok-remove.field-0 c.in_ok-remove.was c.remove.ensures.refusal)

pub update_faults-requires-clause-off : goal.update_faults-requires-clause-off
update_faults-requires-clause-off g c =
    let t = plain_tree c.args.tree.now in
    removed-off c.args.aim.now t (plain_tree c.remove.new.self) c.args.steps.now c.in-Some.front.now
    c.in-Some.place.now c.faults_at-gone.result c.faults_at-next.result c.counted_faults-minus.result
    c.faults_newly_first-plus.result
    c.in-Some.ensures.cases.0 c.in_ok-remove.ensures.removed c.faults_at-gone.ensures c.faults_at-next.ensures c.counted_faults-minus.ensures
    c.faults_newly_first-plus.ensures
    (removal-there t c.args.steps.now c.remove.result c.in_ok-remove.field-0 c.in_ok-remove.was c.remove.ensures.refusal) c.requires

pub returns-in-Some-clause-removed : goal.returns-in-Some-clause-removed
returns-in-Some-clause-removed g c = c.update_faults.ensures.evaluated ∙ ap evaluation_tree c.in_ok-remove.ensures.removed
    ∙ mapped-without (λ (l : NodeLabel). l.evaluated) (plain_tree c.args.tree.now) c.args.steps.now

use Rattle.std.proofs.Common.{ap, ◌∙◌}
use Rattle.study_tree.specs.Tree.{plain_tree}
use Rattle.study_marks.specs.declared.node_label.NodeLabel.{NodeLabel}
use Rattle.study_marks.specs.BenchState.{evaluation_tree}
use Rattle.study_marks.proofs.SameShape.{mapped-moved_up}
use Rattle.study_marks.proofs.ChildrenChanged.{raised-front, raised-off, raising-there}
use Rattle.study_marks.proofs.tree_edits.promote_node.Goals as goal

pub update_faults-requires-clause-found : goal.update_faults-requires-clause-found
update_faults-requires-clause-found g c =
    let t = plain_tree c.args.tree.now in
    raised-front t (plain_tree c.move_up.new.self) c.args.steps.now c.in-Some.front.now c.in-Some.place.now
    c.in-Some.ensures.cases.0 c.in_ok-move_up.ensures.moved
    (raising-there t c.args.steps.now c.move_up.result c.in_ok-move_up.field-0 c.in_ok-move_up.was c.move_up.ensures.refusal)

pub update_faults-requires-clause-off : goal.update_faults-requires-clause-off
update_faults-requires-clause-off g c =
    let t = plain_tree c.args.tree.now in
    raised-off c.args.aim.now t (plain_tree c.move_up.new.self) c.args.steps.now c.in-Some.front.now
    c.in-Some.place.now c.faults_at-raised.result c.faults_at-lowered.result c.faults_of_first-minus.result
    c.faults_of_first-plus.result
    c.in-Some.ensures.cases.0 c.in_ok-move_up.ensures.moved c.faults_at-raised.ensures c.faults_at-lowered.ensures
    c.faults_of_first-minus.ensures c.faults_of_first-plus.ensures
    (raising-there t c.args.steps.now c.move_up.result c.in_ok-move_up.field-0 c.in_ok-move_up.was c.move_up.ensures.refusal) c.requires

pub returns-in-Some-clause-raised : goal.returns-in-Some-clause-raised
returns-in-Some-clause-raised g c = c.update_faults.ensures.evaluated ∙ ap evaluation_tree c.in_ok-move_up.ensures.moved
    ∙ mapped-moved_up (λ (l : NodeLabel). l.evaluated) (plain_tree c.args.tree.now) c.args.steps.now

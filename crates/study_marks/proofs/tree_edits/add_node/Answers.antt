use Rattle.std.proofs.Common.{length, ap, sym, ◌∙◌}
use Rattle.study_tree.specs.Tree.{plain_tree}
use Rattle.study_marks.specs.declared.node_label.NodeLabel.{NodeLabel}
use Rattle.study_marks.specs.BenchState.{own_fault, evaluation_tree}
use Rattle.study_marks.proofs.SameShape.{mapped-with_child}
use Rattle.study_marks.proofs.PathRenewed.{no-spot}
use Rattle.study_marks.proofs.ChildrenChanged.{child-there, added-found, added-off, evaluated-spot, count-two}
use Rattle.study_marks.proofs.tree_edits.add_node.Goals as goal

pub unreachable-requires : goal.unreachable-requires
unreachable-requires g c =
    no-spot (plain_tree c.args.tree.now) c.args.steps.now
    (child-there (plain_tree c.args.tree.now) c.args.steps.now c.requires.free) c.in-None.ensures

pub update_faults-requires-clause-found : goal.update_faults-requires-clause-found
update_faults-requires-clause-found g c =
    let t = plain_tree c.args.tree.now in
    added-found t (plain_tree c.add_last.new.self) c.args.steps.now c.args.m.now
    (record { evaluated = c.args.evaluated; faults = c.own_faults-faults.result }) c.in-Ok.ensures.added
    (child-there t c.args.steps.now c.requires.free)

pub update_faults-requires-clause-off : goal.update_faults-requires-clause-off
update_faults-requires-clause-off g c =
    let t = plain_tree c.args.tree.now in
    added-off c.args.aim.now t (plain_tree c.add_last.new.self) c.args.steps.now c.args.m.now
    (record { evaluated = c.args.evaluated; faults = c.own_faults-faults.result }) c.in-Ok.place c.counted_faults-plus.result
    c.in-Ok.ensures.added c.in-Ok.ensures.place c.counted_faults-plus.ensures
    (c.own_faults-faults.ensures.value ∙ ap (λ q. own_fault c.args.aim.now (length c.args.steps.now) q c.args.evaluated.value)
    (sym (evaluated-spot t c.args.steps.now _ c.in-Some.ensures))) c.requires.right

pub returns-clause-added : goal.returns-clause-added
returns-clause-added g c =
    c.update_faults.ensures.evaluated ∙ ap evaluation_tree c.in-Ok.ensures.added
    ∙ mapped-with_child (λ (l : NodeLabel). l.evaluated) (plain_tree c.args.tree.now) c.args.steps.now c.args.m.now
    (record { evaluated = c.args.evaluated; faults = c.own_faults-faults.result })

pub returns-clause-count : goal.returns-clause-count
returns-clause-count g c =
    count-two (length c.args.steps.now) c.args.tree.now.relabelled c.add_last.new.self.relabelled
    c.update_faults.new.tree.relabelled c.in-Ok.ensures.count c.update_faults.ensures.count

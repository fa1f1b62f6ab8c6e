use Rattle.std.proofs.Common.{◌≡◌, ◌+◌, ◌-◌, [], ap, sym, subst, ◌∙◌, arith}
use Rattle.study_tree.specs.Edits.{IsWithin, node_in}
use Rattle.study_marks.proofs.FirstIllegalMove.{within-child}
use Rattle.study_marks.proofs.NodesLent.{mark-made, child-made, child-missing}
use Rattle.study_marks.proofs.marked_node.MarkedNode.child.Goals as goal

pub invariant_of-result : goal.invariant_of-result
invariant_of-result g c =
    let d = c.self.inside.depth in
    let w = within-child (256 - d) c.self.inside.branch.below c.args.place _ c.in-Some.ensures c.self.invariant.1 in
    let one : 256 - d - 1 ≡ 256 - (d + 1) = omega arith in
    (omega (arith, w.0), subst (λ n. IsWithin n c.in-Some.child.node.below) one w.1)

pub returns-in-None : goal.returns-in-None
returns-in-None g c =
    let b = c.self.inside.branch in
    ap (λ t. node_in t.below c.args.place []) (sym c.self.view_is)
    ∙ child-missing c.self.inside.aim c.self.inside.depth b.label.evaluated b.below c.args.place c.in-None.ensures

pub returns-in-Some : goal.returns-in-Some
returns-in-Some g c =
    let a = c.self.inside.aim in
    let d = c.self.inside.depth in
    let b = c.self.inside.branch in
    let mark = mark-made a d b.label c.in-Some.child.node.label c.label.result.now c.label-label.result.now c.mark_of_move-on_move.result
    c.mark.result c.label.ensures c.label-label.ensures c.mark_of_move-on_move.ensures c.mark.ensures in
    ap (λ t. node_in t.below c.args.place []) (sym c.self.view_is)
    ∙ child-made a d b.label.evaluated b.below c.args.place _ c.mark.result c.in-Some.ensures mark

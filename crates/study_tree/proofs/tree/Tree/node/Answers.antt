use Rattle.std.proofs.Common.{refl, sym, ◌∙◌, ap, arith, Some, None}
use Rattle.study_tree.specs.Forest.{forest_of, nodes_in}
use Rattle.study_tree.specs.Edits.{width}
use Rattle.study_tree.specs.Tree.{plain_tree}
use Rattle.study_tree.proofs.ShownTrees.{width-plain}
use Rattle.study_tree.proofs.PathEnds.{length-le, nodes_from-node_in, spot-root, spot-none, spot-some, spot-same}
use Rattle.study_tree.proofs.PathSteps.{width-forest_of}
use Rattle.study_tree.proofs.tree.Tree.node.Goals as goal

pub overflow_cast-result : goal.overflow_cast-result
overflow_cast-result g c =
    omega (arith, length-le c.self.inside.children.items, c.self.inside.children.ok.0, c.self.invariant.0, c.self.invariant.1)

pub overflow_cast-result-in-Some-node_in : goal.overflow_cast-result-in-Some-node_in
overflow_cast-result-in-Some-node_in g c =
    let below = ap (λ x. x.below) c.node.view_is in
    let few = nodes_from-node_in (forest_of c.deref.result.now) c.in-Some.first.now c.in-Some.rest.now c.in-Some-node_in.node.now c.in-Some-node_in.ensures in
    omega (
      arith,
      few,
      ap nodes_in below,
      ap (λ xs. nodes_in (forest_of xs)) c.deref.ensures.value,
      length-le c.node.inside.children.items,
      c.node.inside.children.ok.0,
      c.self.invariant.0,
      c.self.invariant.1,
    )

pub returns-in-None : goal.returns-in-None
returns-in-None g c =
    spot-root (plain_tree c.args.self.now) c.args.steps.now c.in-None.ensures.cases
    ∙ spot-same None None _ _ _ _ refl (ap (λ t. t.label) (sym c.self.view_is))
    (omega (
      arith,
      ap (λ t. width (plain_tree t).below) c.self.view_is,
      width-plain (forest_of c.self.inside.children.items),
      width-forest_of c.self.inside.children.items,
      c.self.inside.children.ok.0,
      c.len.ensures,
    ))

pub returns-in-None-node_in : goal.returns-in-None-node_in
returns-in-None-node_in g c =
    let shown = ap (λ t. (plain_tree t).below) c.self.view_is in
    spot-none c.self.inside.children.items c.deref.result.now (plain_tree c.args.self.now) c.args.steps.now
    c.in-Some.first.now c.in-Some.rest.now c.deref.ensures.value shown c.in-Some.ensures.cases.0
    c.in-None-node_in.ensures

pub returns-in-Some-node_in : goal.returns-in-Some-node_in
returns-in-Some-node_in g c =
    let shown = ap (λ t. (plain_tree t).below) c.self.view_is in
    spot-some c.self.inside.children.items c.deref.result.now (plain_tree c.args.self.now) c.args.steps.now
    c.in-Some.first.now c.in-Some.rest.now c.in-Some-node_in.node.now c.deref.ensures.value shown
    c.in-Some.ensures.cases.0 c.in-Some-node_in.ensures
    ∙ spot-same _ _ _ _ _ _ (ap (λ x. Some x.played) (sym c.node.view_is)) (ap (λ x. x.label.0) (sym c.node.view_is))
    (omega (
      arith,
      ap (λ x. width x.below) c.node.view_is,
      width-forest_of c.node.inside.children.items,
      c.node.inside.children.ok.0,
      c.len-in-Some-node_in.ensures,
    ))

use Rattle.std.proofs.Common.{[], Some, refl, ap, sym, ◌∙◌, arith}
use Rattle.study_tree.specs.Forest.{forest_of, nodes_in}
use Rattle.study_tree.specs.Edits.{node_in, without_spares}
use Rattle.study_tree.proofs.PathSteps.{node_in-none, node_in-here}
use Rattle.study_tree.proofs.PathEnds.{nodes_from-node_in}
use Rattle.study_tree.proofs.ShownTrees.{node_in-plain, plain_twig}
use Rattle.study_tree.proofs.branch.Subtree.child.Goals as goal

pub invariant_of-result : goal.invariant_of-result
invariant_of-result g c =
    let there = node_in-here c.self.inside.children.now c.args.place [] c.in-Some.node.now refl
    c.in-Some.ensures.lookup.3.0 c.in-Some.ensures.lookup.1 in
    let few = nodes_from-node_in (forest_of c.self.inside.children.now) c.args.place [] c.in-Some.node.now (sym there) in
    omega (arith, few, ap (λ x. nodes_in x.below) c.node.view_is, ap (λ xs. nodes_in (forest_of xs)) c.deref.ensures.value, c.self.invariant)

pub returns-in-None : goal.returns-in-None
returns-in-None g c =
    ap (λ t. node_in t.below c.args.place []) (sym c.self.view_is)
    ∙ node_in-plain (forest_of c.self.inside.children.now) c.args.place []
    ∙ ap plain_twig (node_in-none c.self.inside.children.now c.args.place [] c.in-None.ensures.lookup.3)

pub returns-in-Some : goal.returns-in-Some
returns-in-Some g c =
    ap (λ t. node_in t.below c.args.place []) (sym c.self.view_is)
    ∙ node_in-plain (forest_of c.self.inside.children.now) c.args.place []
    ∙ ap plain_twig (node_in-here c.self.inside.children.now c.args.place [] c.in-Some.node.now refl
    c.in-Some.ensures.lookup.3.0 c.in-Some.ensures.lookup.1
    ∙ ap (λ x. Some x) (sym c.node.view_is))
    ∙ ap (λ xs. Some (record { played = c.node.inside.played; label = c.node.inside.label; below = without_spares (forest_of xs) })) (sym c.deref.ensures.value)

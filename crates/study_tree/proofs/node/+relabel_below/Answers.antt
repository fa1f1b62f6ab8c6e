use Rattle.std.proofs.Common.{◌∷◌, refl, arith}
use Rattle.study_tree.specs.Edits.{labelled_at}
use Rattle.study_tree.proofs.PathSteps.{has_node-within, step_of, has_node-step, place_edited-step, labelled-here}
use Rattle.study_tree.proofs.node.+relabel_below.Goals as goal

pub index_mut-child-requires : goal.index_mut-child-requires
index_mut-child-requires g t c =
    omega (
      arith,
      has_node-within c.args.children.now.items c.args.first c.args.rest.now c.requires.found,
      c.args.children.now.ok.0,
    )

pub relabel_below-requires : goal.relabel_below-requires
relabel_below-requires g t c κs within =
    let step = step_of c.args.children.now.items (c.args.first ∷ c.args.rest.now) c.args.first c.args.rest.now _
    c.index_mut-child.result.now c.requires.found refl c.child.view_is c.index_mut-child.ensures.value in
    (omega (arith, c.in-Some.ensures.cases.1, c.decreases), (within.0, (within.1, rw c.in-Some.ensures.cases.0 at (has_node-step step c.requires.found))))

pub returns-in-None : goal.returns-in-None
returns-in-None g t c =
    let step = step_of c.args.children.now.items (c.args.first ∷ c.args.rest.now) c.args.first c.args.rest.now _
    c.index_mut-child.result.now c.requires.found refl c.child.view_is c.index_mut-child.ensures.value in
    labelled-here step c.args.label.now _ c.in-None.ensures.cases refl c.swap.ensures.x_after refl

pub returns-in-Some : goal.returns-in-Some
returns-in-Some g t c =
    let step = step_of c.args.children.now.items (c.args.first ∷ c.args.rest.now) c.args.first c.args.rest.now _
    c.index_mut-child.result.now c.requires.found refl c.child.view_is c.index_mut-child.ensures.value in
    place_edited-step step (labelled_at c.args.label.now) c.in-Some.next.now c.in-Some.rest.now _ c.in-Some.ensures.cases.0 refl refl c.relabel_below.ensures

use Rattle.std.proofs.Common.{◌∷◌, refl, ◌∙◌, ap, arith}
use Rattle.study_tree.specs.Forest.{forest_of}
use Rattle.study_tree.specs.Edits.{without_spares, raised_at}
use Rattle.study_tree.proofs.PathSteps.{has_node-within, step_of, has_node-step, place_edited-step, raised-here, last_place-here}
use Rattle.study_tree.proofs.node.+move_up_below.Goals as goal

pub swap-requires-clause-i_in_bounds : goal.swap-requires-clause-i_in_bounds
swap-requires-clause-i_in_bounds g t c =
    omega (
      arith,
      has_node-within c.args.children.now.items c.args.first c.args.rest.now c.requires.found,
      c.args.children.now.ok.0,
    )

pub swap-requires-clause-j_in_bounds : goal.swap-requires-clause-j_in_bounds
swap-requires-clause-j_in_bounds g t c =
    omega (
      arith,
      has_node-within c.args.children.now.items c.args.first c.args.rest.now c.requires.found,
      c.args.children.now.ok.0,
    )

pub index_mut-child-requires : goal.index_mut-child-requires
index_mut-child-requires g t c =
    omega (
      arith,
      has_node-within c.args.children.now.items c.args.first c.args.rest.now c.requires.found,
      c.args.children.now.ok.0,
    )

pub move_up_below-requires : goal.move_up_below-requires
move_up_below-requires g t c κs within =
    let step = step_of c.args.children.now.items (c.args.first ∷ c.args.rest.now) c.args.first c.args.rest.now _
    c.index_mut-child.result.now c.requires.found refl c.child.view_is c.index_mut-child.ensures.value in
    let path = c.in-Some.ensures.cases.0 in (
      omega (arith, c.in-Some.ensures.cases.1, c.decreases),
      (within.0, (within.1, (rw path at (has_node-step step c.requires.found), rw path at c.requires.not_first))),
    )

pub returns-in-None : goal.returns-in-None
returns-in-None g t c =
    let z = c.in-None.ensures.cases in
    let within = has_node-within c.args.children.now.items c.args.first c.args.rest.now c.requires.found in
    ap (λ xs. without_spares (forest_of xs)) c.swap.ensures.items
    ∙ raised-here c.args.children.now.items c.args.first c.args.rest.now z
    (omega (arith, last_place-here c.args.first c.args.rest.now z, c.requires.not_first)) within

pub returns-in-Some : goal.returns-in-Some
returns-in-Some g t c =
    let step = step_of c.args.children.now.items (c.args.first ∷ c.args.rest.now) c.args.first c.args.rest.now _
    c.index_mut-child.result.now c.requires.found refl c.child.view_is c.index_mut-child.ensures.value in
    place_edited-step step raised_at c.in-Some.next.now c.in-Some.rest.now _ c.in-Some.ensures.cases.0 refl refl c.move_up_below.ensures

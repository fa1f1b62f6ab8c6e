use Rattle.std.proofs.Common.{ℕ, ◌∷◌, refl, ◌∙◌, ap, arith, vec_len, vec_capacity, ◌-◌}
use Rattle.study_tree.specs.Forest.{Twig, forest_of}
use Rattle.study_tree.specs.Edits.{without_spares, dropped_at}
use Rattle.study_tree.proofs.PathSteps.{has_node-within, step_of, has_node-step, place_edited-step, dropped-here, nodes_in-remove, nodes_in-set}
use Rattle.study_tree.proofs.node.+remove_below.Goals as goal

pub index_mut-child-requires : goal.index_mut-child-requires
index_mut-child-requires g t c =
    omega (
      arith,
      has_node-within c.args.children.now.items c.args.first c.args.rest.now c.requires.found,
      c.args.children.now.ok.0,
    )

pub take_node-requires : goal.take_node-requires
take_node-requires g t c = omega (arith, has_node-within c.args.children.now.items c.args.first c.args.rest.now c.requires.found, c.args.children.now.ok.0)

pub remove_below-requires : goal.remove_below-requires
remove_below-requires g t c κs within =
    let step = step_of c.args.children.now.items (c.args.first ∷ c.args.rest.now) c.args.first c.args.rest.now _
    c.index_mut-child.result.now c.requires.found refl c.child.view_is c.index_mut-child.ensures.value in
    (omega (arith, c.in-Some.ensures.cases.1, c.decreases), (within.0, (within.1, rw c.in-Some.ensures.cases.0 at (has_node-step step c.requires.found))))

pub returns-in-None-clause-removed : goal.returns-in-None-clause-removed
returns-in-None-clause-removed g t c =
    ap (λ xs. without_spares (forest_of xs)) c.take_node.ensures.items
    ∙ dropped-here c.args.children.now.items c.args.first c.args.rest.now c.in-None.ensures.cases

pub returns-in-None-clause-counted : goal.returns-in-None-clause-counted
returns-in-None-clause-counted g t c =
    let within = has_node-within c.args.children.now.items c.args.first c.args.rest.now c.requires.found in
    rw c.take_node.ensures.items (nodes_in-remove c.args.children.now.items c.args.first c.take_node.result within c.take_node.ensures.value)

pub returns-in-Some-clause-removed : goal.returns-in-Some-clause-removed
returns-in-Some-clause-removed g t c =
    let step = step_of c.args.children.now.items (c.args.first ∷ c.args.rest.now) c.args.first c.args.rest.now _
    c.index_mut-child.result.now c.requires.found refl c.child.view_is c.index_mut-child.ensures.value in
    place_edited-step step dropped_at c.in-Some.next.now c.in-Some.rest.now _ c.in-Some.ensures.cases.0 refl refl c.remove_below.ensures.removed

pub returns-in-Some-clause-counted : goal.returns-in-Some-clause-counted
returns-in-Some-clause-counted g t c =
    let step = step_of c.args.children.now.items (c.args.first ∷ c.args.rest.now) c.args.first c.args.rest.now _
    c.index_mut-child.result.now c.requires.found refl c.child.view_is c.index_mut-child.ensures.value in
    let now : Twig (g.row.L.Denot × ℕ) =
    record {
      played = c.child.inside.played;
      label = (
        c.child.inside.label,
        vec_capacity c.remove_below.new.children - vec_len
            c.remove_below.new.children,
      );
      below = forest_of c.remove_below.new.children.items;
    } in
    omega (arith, nodes_in-set c.args.children.now.items c.args.first _ now step.within step.at, c.remove_below.ensures.counted)

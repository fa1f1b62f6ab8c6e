use Rattle.std.proofs.Common.{◌<◌, ℕ, refl, sym, arith, vec_len, vec_capacity, ◌-◌, subst}
use Rattle.study_tree.specs.Forest.{Twig, forest_of}
use Rattle.std.specs.Result.{OnOk}
use Rattle.study_tree.proofs.PathSteps.{has_node-within, step_of, has_node-step, same_plain-step, spare_at-set}
use Rattle.study_tree.proofs.node.+reserve_below.Goals as goal

pub index_mut-child-requires : goal.index_mut-child-requires
index_mut-child-requires g t c =
    let found = rw c.in-Some.ensures.cases.0 at c.requires.found in
    omega (arith, has_node-within c.args.children.now.items c.in-Some.first.now c.in-Some.rest.now found, c.args.children.now.ok.0)

pub reserve_below-requires : goal.reserve_below-requires
reserve_below-requires g t c κs within =
    let step = step_of c.args.children.now.items c.args.steps.now c.in-Some.first.now c.in-Some.rest.now _
    c.index_mut-child.result.now c.requires.found c.in-Some.ensures.cases.0 c.child.view_is
    c.index_mut-child.ensures.value in
    (omega (arith, c.in-Some.ensures.cases.1, c.decreases), (within.0, (within.1, has_node-step step c.requires.found)))

pub returns-in-Some-clause-same : goal.returns-in-Some-clause-same
returns-in-Some-clause-same g t c =
    let step = step_of c.args.children.now.items c.args.steps.now c.in-Some.first.now c.in-Some.rest.now _
    c.index_mut-child.result.now c.requires.found c.in-Some.ensures.cases.0 c.child.view_is
    c.index_mut-child.ensures.value in
    same_plain-step step _ refl refl c.reserve_below.ensures.same

pub returns-in-Some-clause-room : goal.returns-in-Some-clause-room
returns-in-Some-clause-room g t c =
    let step = step_of c.args.children.now.items c.args.steps.now c.in-Some.first.now c.in-Some.rest.now _
    c.index_mut-child.result.now c.requires.found c.in-Some.ensures.cases.0 c.child.view_is
    c.index_mut-child.ensures.value in
    let now : Twig (g.row.L.Denot × ℕ) =
    record {
      played = c.child.inside.played;
      label = (
        c.child.inside.label,
        vec_capacity c.reserve_below.new.children - vec_len
            c.reserve_below.new.children,
      );
      below = forest_of c.reserve_below.new.children.items;
    } in
    subst (λ n. OnOk c.reserve_below.result (0 < n)) (sym (spare_at-set step _ now)) c.reserve_below.ensures.room

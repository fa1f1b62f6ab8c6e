use Rattle.std.proofs.Common.{refl, sym, ◌∙◌, arith}
use Rattle.study_tree.specs.Edits.{with_last}
use Rattle.study_tree.proofs.PathSteps.{children_at-here, has_node-within, step_of, has_node-step}
use Rattle.study_tree.proofs.PathSteps.{children_at-step, spare_at-step, below_edited-step}
use Rattle.study_tree.proofs.PathSteps.{same_plain-step}
use Rattle.study_tree.proofs.Outcomes.{if_ok-then, on_ok-then, on_err-then, if_some-then}
use Rattle.study_tree.proofs.node.+add_below.Goals as goal

pub push_node-requires-clause-few : goal.push_node-requires-clause-few
push_node-requires-clause-few g t c =
    omega (arith, children_at-here c.args.children.now.items c.args.steps.now c.in-None.ensures.cases, c.requires.few, c.args.children.now.ok.0)

pub index_mut-child-requires : goal.index_mut-child-requires
index_mut-child-requires g t c =
    let found = rw c.in-Some.ensures.cases.0 at c.requires.found in
    omega (arith, has_node-within c.args.children.now.items c.in-Some.first.now c.in-Some.rest.now found, c.args.children.now.ok.0)

pub add_below-requires : goal.add_below-requires
add_below-requires g t c κs within =
    let step = step_of c.args.children.now.items c.args.steps.now c.in-Some.first.now c.in-Some.rest.now _
    c.index_mut-child.result.now c.requires.found c.in-Some.ensures.cases.0 c.child.view_is
    c.index_mut-child.ensures.value in (
      omega (arith, c.in-Some.ensures.cases.1, c.decreases),
      (within.0, (within.1, (has_node-step step c.requires.found, (omega (arith, children_at-step step), c.requires.given)))),
    )

pub returns-in-None-clause-place : goal.returns-in-None-clause-place
returns-in-None-clause-place g t c =
    if_ok-then c.push_node.result
    (λ k h. omega (arith, h, children_at-here c.args.children.now.items c.args.steps.now c.in-None.ensures.cases, c.args.children.now.ok.0))
    c.push_node.ensures.place

pub returns-in-Some-clause-place : goal.returns-in-Some-clause-place
returns-in-Some-clause-place g t c =
    let step = step_of c.args.children.now.items c.args.steps.now c.in-Some.first.now c.in-Some.rest.now _
    c.index_mut-child.result.now c.requires.found c.in-Some.ensures.cases.0 c.child.view_is
    c.index_mut-child.ensures.value in
    if_ok-then c.add_below.result (λ k h. h ∙ sym (children_at-step step)) c.add_below.ensures.place

pub returns-in-Some-clause-added : goal.returns-in-Some-clause-added
returns-in-Some-clause-added g t c =
    let step = step_of c.args.children.now.items c.args.steps.now c.in-Some.first.now c.in-Some.rest.now _
    c.index_mut-child.result.now c.requires.found c.in-Some.ensures.cases.0 c.child.view_is
    c.index_mut-child.ensures.value in
    if_some-then c.args.label.now
    (λ l h. on_ok-then c.add_below.result (below_edited-step step (with_last c.args.played l) _ refl refl) h)
    c.add_below.ensures.added

pub returns-in-Some-clause-room : goal.returns-in-Some-clause-room
returns-in-Some-clause-room g t c =
    let step = step_of c.args.children.now.items c.args.steps.now c.in-Some.first.now c.in-Some.rest.now _
    c.index_mut-child.result.now c.requires.found c.in-Some.ensures.cases.0 c.child.view_is
    c.index_mut-child.ensures.value in
    λ h. let room = rw (spare_at-step step _) at h in c.add_below.ensures.room room

pub returns-in-Some-clause-err : goal.returns-in-Some-clause-err
returns-in-Some-clause-err g t c =
    let step = step_of c.args.children.now.items c.args.steps.now c.in-Some.first.now c.in-Some.rest.now _
    c.index_mut-child.result.now c.requires.found c.in-Some.ensures.cases.0 c.child.view_is
    c.index_mut-child.ensures.value in
    on_err-then c.add_below.result (same_plain-step step _ refl refl) c.add_below.ensures.err

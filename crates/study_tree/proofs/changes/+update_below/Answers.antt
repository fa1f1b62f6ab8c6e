use Rattle.std.proofs.Common.{◌∷◌, ◌+◌, refl, sym, ◌∙◌, ap, arith}
use Rattle.study_tree.specs.Edits.{without_spares}
use Rattle.study_tree.specs.Changes.{changed_along}
use Rattle.study_tree.proofs.PathSteps.{has_node-within, step_of, has_node-step}
use Rattle.study_tree.proofs.LabelChanges.{changed-set, changed-here}
use Rattle.study_tree.proofs.changes.+update_below.Goals as goal

pub index_mut-child-requires : goal.index_mut-child-requires
index_mut-child-requires g t c =
    omega (
      arith,
      has_node-within c.args.children.now.items c.args.first c.args.rest.now c.requires.found,
      c.args.children.now.ok.0,
    )

pub update_below-requires : goal.update_below-requires
update_below-requires g t c κs within =
    let step = step_of c.args.children.now.items (c.args.first ∷ c.args.rest.now) c.args.first c.args.rest.now _
    c.index_mut-child.result.now c.requires.found refl c.child.view_is c.index_mut-child.ensures.value in (
      omega (arith, c.in-Some.ensures.cases.1, c.decreases),
      (
        within.0,
        (
          within.1.0,
          (
            within.1.1,
            (
              rw c.in-Some.ensures.cases.0 at (has_node-step step c.requires.found),
              omega (arith, c.in-Some.ensures.cases.1, c.requires.short),
            ),
          ),
        ),
      ),
    )

pub returns-in-Some : goal.returns-in-Some
returns-in-Some g t c =
    let step = step_of c.args.children.now.items (c.args.first ∷ c.args.rest.now) c.args.first c.args.rest.now _
    c.index_mut-child.result.now c.requires.found refl c.child.view_is c.index_mut-child.ensures.value in
    changed-set (g.C.LabelChange.changed c.args.change.now) c.args.depth c.args.children.now.items c.args.first c.args.rest.now _ _
    step.within step.at refl c.change.ensures
    (c.update_below.ensures ∙ ap (changed_along (g.C.LabelChange.changed c.args.change.now) (c.args.depth + 1) (without_spares _))
    (sym c.in-Some.ensures.cases.0))

pub returns-in_default : goal.returns-in_default
returns-in_default g t c =
    let step = step_of c.args.children.now.items (c.args.first ∷ c.args.rest.now) c.args.first c.args.rest.now _
    c.index_mut-child.result.now c.requires.found refl c.child.view_is c.index_mut-child.ensures.value in
    changed-set (g.C.LabelChange.changed c.args.change.now) c.args.depth c.args.children.now.items c.args.first c.args.rest.now _ _
    step.within step.at refl c.change.ensures
    (sym (changed-here (g.C.LabelChange.changed c.args.change.now) (c.args.depth + 1) _ c.args.rest.now c.in_default.ensures.cases))

use Rattle.std.proofs.Common.{get_or, refl, sym, ◌∙◌, ap, arith}
use Rattle.study_tree.proofs.LabelChanges.{left-few, left-next, left-more, left-none}
use Rattle.study_tree.proofs.changes.+rewrite_below.Goals as goal

pub rewrite_below-next-requires : goal.rewrite_below-next-requires
rewrite_below-next-requires g t c κs within =
    let view = c.child.view_is in
    let at = view ∙ c.index_mut-child.ensures.value ∙ ap (get_or c.loop-place.children.items c.loop-place.place) (sym view) in
    let few = left-few c.loop-place.invariant _ (omega (arith, c.loop-place-test.true, c.len.ensures)) at in (
      omega (arith, few, c.loop-place.invariant.done, c.decreases),
      (
        within.0,
        (
          within.1.0,
          (
            within.1.1,
            (
              omega (arith, few, c.loop-place.invariant.done, c.requires.deep),
              omega (arith, few, c.loop-place.invariant.done, c.requires.numbers),
            ),
          ),
        ),
      ),
    )

pub overflow_cast-place : goal.overflow_cast-place
overflow_cast-place g t c =
    let view = c.child.view_is in
    let at = view ∙ c.index_mut-child.ensures.value ∙ ap (get_or c.loop-place.children.items c.loop-place.place) (sym view) in
    let few = left-few c.loop-place.invariant _ (omega (arith, c.loop-place-test.true, c.len.ensures)) at in
    omega (arith, few, c.loop-place.invariant.done, c.requires.deep)

pub loop-place-preserved : goal.loop-place-preserved
loop-place-preserved g t c =
    let view = c.child.view_is in
    let at = view ∙ c.index_mut-child.ensures.value ∙ ap (get_or c.loop-place.children.items c.loop-place.place) (sym view) in
    left-more (left-next c.loop-place.invariant _ _ c.enter.new.label c.join.new.parent c.rewrite_below-next.result
    (omega (arith, c.loop-place-test.true, c.len.ensures)) at refl c.enter.ensures
    c.rewrite_below-next.ensures.label c.rewrite_below-next.ensures.below c.join.ensures c.rewrite_below-next.ensures.number)

pub returns-clause-below : goal.returns-clause-below
returns-clause-below g t c = (left-none c.loop-place.invariant (omega (arith, c.loop-place-test.false))).1

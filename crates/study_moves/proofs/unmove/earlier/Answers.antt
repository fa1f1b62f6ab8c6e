use Rattle.std.proofs.Common.{sym, arith, subst, List}
use Rattle.std.specs.List.{Contains}
use Rattle.std.proofs.lemmas.List.Elements.{Contains-get_or}
use Rattle.study_moves.specs.declared.moves.Move.{Move}
use Rattle.study_moves.proofs.LastMoves.{AreDistinct, none_before, one_before, all_before}
use Rattle.study_moves.proofs.unmove.earlier.Goals as goal

pub loop-m-init : goal.loop-m-init
loop-m-init c = none_before c.args.q.now c.as_slice-m-items.result.now c.new-list.result.items c.new-list.ensures

pub position_before-requires : goal.position_before-requires
position_before-requires c =
    let C : List Move → Type 0 = λ xs. Contains xs c.m-item.result in
    (c.unmoves-moves.ensures.exact c.m-item.result).0 (subst C c.as_slice-m-items.ensures.value
    (let H : Move → Type 0 = λ x. Contains c.as_slice-m-items.result.now x in
    subst H (sym c.m-item.is) (Contains-get_or c.as_slice-m-items.result.now c.loop-m.m-index _ c.loop-m-test.true)))

pub loop-m-preserved : goal.loop-m-preserved
loop-m-preserved c =
    let each : AreDistinct c.as_slice-m-items.result.now = rw c.as_slice-m-items.ensures.value c.unmoves-moves.ensures.once in
    one_before c.args.q.now c.men-men.ensures.valid c.as_slice-m-items.result.now c.loop-m.m-index _ c.m-item.result c.loop-m-test.true c.m-item.is each
    c.position_before.result c.loop-m.list.items c.push.new.self.items c.loop-m.invariant c.position_before.ensures.before
    c.position_before.ensures.only c.push.ensures.items

pub returns-clause-exact : goal.returns-clause-exact
returns-clause-exact c =
    all_before c.args.q.now c.as_slice-m-items.result.now c.loop-m.m-index c.loop-m.list.items
    (λ m. let C : List Move → Type 0 = λ xs. Contains xs m in
    let e = c.unmoves-moves.ensures.exact m in (
      λ h. e.0 (subst C c.as_slice-m-items.ensures.value h),
      λ h. subst C (sym c.as_slice-m-items.ensures.value) (e.1 h),
    ))
    (omega arith) c.loop-m.invariant

pub returns-clause-once : goal.returns-clause-once
returns-clause-once c = c.loop-m.invariant.once

use Rattle.std.proofs.Common.{sym, subst, arith}
use Rattle.study_marks.specs.Study.{IsPlayable}
use Rattle.study_marks.proofs.FirstIllegalMove.{no-child, fewer-below}
use Rattle.study_marks.proofs.PositionsListed.{legal-child, listed-next, listed-all}
use Rattle.study_marks.proofs.evaluate_all.+list_positions_below.Goals as goal

pub unreachable-requires : goal.unreachable-requires
unreachable-requires g t c =
    no-child c.args.node.now.below c.loop-place.place (omega (arith, c.loop-place-test.true, c.width-count.ensures)) c.in_default.ensures

pub played-next-requires : goal.played-next-requires
played-next-requires g t c =
    (legal-child c.args.position.now c.args.node.now.below c.loop-place.place _ c.in-Some.ensures c.requires.playable).0

pub list_positions_below-requires : goal.list_positions_below-requires
list_positions_below-requires g t c κs within =
    let legal = legal-child c.args.position.now c.args.node.now.below c.loop-place.place _ c.in-Some.ensures c.requires.playable in (
      omega (arith, fewer-below c.args.node.now.below c.loop-place.place _ c.in-Some.ensures, c.decreases),
      (within, subst (λ p. IsPlayable p c.in-Some.child.node.below) (sym c.played-next.ensures.value) legal.1),
    )

pub loop-place-preserved : goal.loop-place-preserved
loop-place-preserved g t c = (
  listed-next c.args.position.now c.args.node.now.below c.loop-place.place _ c.played-next.result
      c.args.all.now.items c.loop-place.all.items c.push_position.new.all.items c.list_positions_below.new.all.items
      c.in-Some.ensures c.played-next.ensures.value c.loop-place.invariant.0 c.in_ok-push_position.ensures c.in_ok-list_positions_below.ensures.listed,
  omega (arith, c.loop-place-test.true),
)

pub returns : goal.returns
returns g t c = record {
  listed = listed-all c.args.position.now c.args.node.now.below c.loop-place.place c.args.all.now.items c.loop-place.all.items
      (omega (arith, c.loop-place-test.false, c.width-count.ensures)) c.loop-place.invariant.0;
}

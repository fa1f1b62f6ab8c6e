use Rattle.std.proofs.Common.{◌≡◌, ◌+◌, ◌≤◌, suc, sym, subst, ◌∙◌, arith}
use Rattle.study_tree.specs.Edits.{width}
use Rattle.study_marks.proofs.PathWalks.{fewer}
use Rattle.study_marks.proofs.ChildFound.{skipped-end}
use Rattle.study_wide.specs.Wide.{Wide}
use Rattle.study_tails.specs.Study.{IsWidePlayable}
use Rattle.study_tails.proofs.Nodes.{playable_child, from_end}
use Rattle.study_tails.proofs.LinesWritten.{written_child, written_end}
use Rattle.study_tails.proofs.lines.+add_inserts.Goals as goal

pub returns-in-None : goal.returns-in-None
returns-in-None g t c =
    written_end c.args.before.now c.args.position.now c.args.steps.now c.loop-place.place c.args.node.now.below c.args.out.now c.loop-place.out
    (from_end c.args.node.now.below c.loop-place.place c.in-None.ensures) c.loop-place.invariant.written

pub add_insert-requires : goal.add_insert-requires
add_insert-requires g t c = (playable_child c.args.position.now c.args.node.now.below c.loop-place.place _ c.in-Some.ensures c.requires).0

pub played-after-requires : goal.played-after-requires
played-after-requires g t c = (playable_child c.args.position.now c.args.node.now.below c.loop-place.place _ c.in-Some.ensures c.requires).0

pub add_inserts-requires : goal.add_inserts-requires
add_inserts-requires g t c κs within = (
  omega (arith, fewer c.args.node.now.below c.loop-place.place _ c.in-Some.ensures, c.decreases),
  (
    within,
    subst (λ (p : Wide). IsWidePlayable p c.in-Some.child.node.below) (sym c.played-after.ensures.value)
        (playable_child c.args.position.now c.args.node.now.below c.loop-place.place _ c.in-Some.ensures c.requires).1,
  ),
)

pub loop-place-preserved : goal.loop-place-preserved
loop-place-preserved g t c = record {
  within = omega (arith, c.loop-place-test.true, c.width.ensures);
  written =
      written_child c.args.before.now c.args.position.now c.args.steps.now c.loop-place.place (c.loop-place.place + 1) c.args.node.now.below _
      c.steps.result.now
      c.played-after.result c.loop-place.out c.add_insert.new.out c.add_inserts.new.out
      (let z : c.loop-place.place + 1 ≡ suc c.loop-place.place = omega arith in z) c.in-Some.ensures (c.steps.ensures ∙ c.in_ok-below-in-Some.ensures)
      c.played-after.ensures.value c.in_ok-add_insert-in-Some.ensures c.in_ok-add_inserts-in-Some.ensures
      ∙ c.loop-place.invariant.written;
}

pub returns : goal.returns
returns g t c =
    let f = c.args.node.now.below in
    let end : width f ≤ c.loop-place.place = omega (arith, c.loop-place-test.false, c.width.ensures) in
    written_end c.args.before.now c.args.position.now c.args.steps.now c.loop-place.place f c.args.out.now c.loop-place.out
    (skipped-end c.loop-place.place f end) c.loop-place.invariant.written

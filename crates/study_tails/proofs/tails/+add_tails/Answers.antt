use Rattle.std.proofs.Common.{◌≡◌, ◌+◌, ◌≤◌, suc, sym, subst, ◌∙◌, arith}
use Rattle.study_tree.specs.Edits.{width}
use Rattle.study_marks.proofs.PathWalks.{fewer}
use Rattle.study_marks.proofs.ChildFound.{skipped-end}
use Rattle.study_wide.specs.Wide.{Wide}
use Rattle.study_tails.specs.Study.{IsWidePlayable}
use Rattle.study_tails.proofs.Nodes.{playable_child, from_end}
use Rattle.study_tails.proofs.TailsListed.{listed_child, is_listed}
use Rattle.study_tails.proofs.tails.+add_tails.Goals as goal

pub returns-in-None : goal.returns-in-None
returns-in-None g t c =
    is_listed c.args.position.now c.args.steps.now c.loop-place.place c.args.node.now.below c.args.found.now.items c.loop-place.found.items
    (sym c.is_small.ensures ∙ c.if-is_small.false) (from_end c.args.node.now.below c.loop-place.place c.in-None.ensures)
    c.loop-place.invariant.listed

pub played-after-requires : goal.played-after-requires
played-after-requires g t c = (playable_child c.args.position.now c.args.node.now.below c.loop-place.place _ c.in-Some.ensures c.requires).0

pub add_tails-requires : goal.add_tails-requires
add_tails-requires g t c κs within = (
  omega (arith, fewer c.args.node.now.below c.loop-place.place _ c.in-Some.ensures, c.decreases),
  (
    within,
    subst (λ (p : Wide). IsWidePlayable p c.in-Some.child.node.below) (sym c.played-after.ensures.value)
        (playable_child c.args.position.now c.args.node.now.below c.loop-place.place _ c.in-Some.ensures c.requires).1,
  ),
)

pub loop-place-preserved : goal.loop-place-preserved
loop-place-preserved g t c = record {
  within = omega (arith, c.loop-place-test.true, c.width.ensures);
  listed =
      listed_child c.args.position.now c.args.steps.now c.loop-place.place (c.loop-place.place + 1) c.args.node.now.below _ c.steps.result.now
      c.played-after.result c.loop-place.found.items c.add_tails.new.found.items
      (let z : c.loop-place.place + 1 ≡ suc c.loop-place.place = omega arith in z) c.in-Some.ensures (c.steps.ensures ∙ c.in_ok-below-in-Some.ensures)
      c.played-after.ensures.value c.in_ok-add_tails-in-Some.ensures
      ∙ c.loop-place.invariant.listed;
}

pub returns : goal.returns
returns g t c =
    let f = c.args.node.now.below in
    let end : width f ≤ c.loop-place.place = omega (arith, c.loop-place-test.false, c.width.ensures) in
    is_listed c.args.position.now c.args.steps.now c.loop-place.place f c.args.found.now.items c.loop-place.found.items
    (sym c.is_small.ensures ∙ c.if-is_small.false) (skipped-end c.loop-place.place f end) c.loop-place.invariant.listed

use Rattle.std.proofs.Common.{◌≡◌, ◌+◌, ◌≤◌, suc, true, ◌||◌, sym, ap, subst, ◌∙◌, arith}
use Rattle.study_tree.specs.Edits.{width}
use Rattle.study_marks.proofs.PathWalks.{fewer}
use Rattle.study_marks.proofs.ChildFound.{skipped-end}
use Rattle.study_wide.specs.Wide.{Wide}
use Rattle.study_tails.specs.Study.{IsWidePlayable}
use Rattle.study_tails.specs.Blocks.{has_four, gets_to_four}
use Rattle.study_tails.proofs.Nodes.{playable_child, from_end}
use Rattle.study_tails.proofs.BlocksWritten.{four_here, four_later, either_left, either_right, neither}
use Rattle.study_tails.proofs.blocks.+gets_to_four.Goals.{then-has_four-via-then-has_four, then-has_four-via-else-has_four+then-gets_to_four}
use Rattle.study_tails.proofs.blocks.+gets_to_four.Goals as goal

pub returns-in-None : goal.returns-in-None
returns-in-None g t c =
    sym (ap (gets_to_four c.args.position.now) (from_end c.args.node.now.below c.loop-place.place c.in-None.ensures)) ∙ c.loop-place.invariant.later

pub played-after-requires : goal.played-after-requires
played-after-requires g t c = (playable_child c.args.position.now c.args.node.now.below c.loop-place.place _ c.in-Some.ensures c.requires).0

pub gets_to_four-requires : goal.gets_to_four-requires
gets_to_four-requires g t c κs within = (
  omega (arith, fewer c.args.node.now.below c.loop-place.place _ c.in-Some.ensures, c.decreases),
  (
    within,
    subst (λ (p : Wide). IsWidePlayable p c.in-Some.child.node.below) (sym c.played-after.ensures.value)
        (playable_child c.args.position.now c.args.node.now.below c.loop-place.place _ c.in-Some.ensures c.requires).1,
  ),
)

pub returns-then-has_four : goal.returns-then-has_four
returns-then-has_four g t c =
    let after = c.played-after.result in
    let below = c.in-Some.child.node.below in
    let few : (has_four after || gets_to_four after below) ≡ true = elim c.then-has_four.branch [
      | then-has_four-via-then-has_four w ↦ either_left (has_four after) (gets_to_four after below) (sym c.has_four.ensures ∙ w.if-has_four.true)
      | then-has_four-via-else-has_four+then-gets_to_four w ↦
          either_right (has_four after) (gets_to_four after below) (sym w.gets_to_four.ensures ∙ w.if-gets_to_four.true)
    ] in
    sym (four_here c.args.position.now c.args.node.now.below c.loop-place.place _ after c.in-Some.ensures c.played-after.ensures.value few)
    ∙ c.loop-place.invariant.later

pub loop-place-preserved : goal.loop-place-preserved
loop-place-preserved g t c = record {
  within = omega (arith, c.loop-place-test.true, c.width.ensures);
  later =
      four_later c.args.position.now c.args.node.now.below c.loop-place.place (c.loop-place.place + 1) _ c.played-after.result
      (let z : c.loop-place.place + 1 ≡ suc c.loop-place.place = omega arith in z) c.in-Some.ensures c.played-after.ensures.value
      (neither (has_four c.played-after.result) (gets_to_four c.played-after.result c.in-Some.child.node.below) (sym c.has_four.ensures ∙ c.if-has_four.false)
      (sym c.gets_to_four.ensures ∙ c.if-gets_to_four.false))
      ∙ c.loop-place.invariant.later;
}

pub returns : goal.returns
returns g t c =
    let f = c.args.node.now.below in
    let end : width f ≤ c.loop-place.place = omega (arith, c.loop-place-test.false, c.width.ensures) in
    sym (ap (gets_to_four c.args.position.now) (skipped-end c.loop-place.place f end)) ∙ c.loop-place.invariant.later

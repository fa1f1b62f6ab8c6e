use Rattle.std.proofs.Common.{◌≡◌, ◌+◌, ◌≤◌, suc, sym, ap, ◌∙◌, arith}
use Rattle.study_tree.specs.Edits.{width}
use Rattle.study_marks.specs.Study.{place_from}
use Rattle.study_marks.proofs.EqualMoves.{move_same}
use Rattle.study_marks.proofs.ChildFound.{skipped-end}
use Rattle.study_tails.proofs.Nodes.{from_end, found_here, found_later}
use Rattle.study_tails.proofs.moves.find_child.Goals as goal

pub returns-in-None : goal.returns-in-None
returns-in-None g c =
    sym (ap (place_from c.loop-place.place c.args.m.now) (from_end c.args.node.now.below c.loop-place.place c.in-None.ensures)) ∙ c.loop-place.invariant.later

pub returns-then-eq : goal.returns-then-eq
returns-then-eq g c =
    found_here c.args.node.now.below c.loop-place.place _ c.args.m.now c.in-Some.ensures
    (sym (c.eq.ensures ∙ move_same c.args.m.now c.in-Some.child.played) ∙ c.if-eq.true)
    ∙ c.loop-place.invariant.later

pub loop-place-preserved : goal.loop-place-preserved
loop-place-preserved g c = record {
  within = omega (arith, c.loop-place-test.true, c.width.ensures);
  later =
      found_later c.args.node.now.below c.loop-place.place (c.loop-place.place + 1) _ c.args.m.now
      (let z : c.loop-place.place + 1 ≡ suc c.loop-place.place = omega arith in z) c.in-Some.ensures
      (sym (c.eq.ensures ∙ move_same c.args.m.now c.in-Some.child.played) ∙ c.if-eq.false)
      ∙ c.loop-place.invariant.later;
}

pub returns : goal.returns
returns g c =
    let f = c.args.node.now.below in
    let end : width f ≤ c.loop-place.place = omega (arith, c.loop-place-test.false, c.width.ensures) in
    sym (ap (place_from c.loop-place.place c.args.m.now) (skipped-end c.loop-place.place f end)) ∙ c.loop-place.invariant.later

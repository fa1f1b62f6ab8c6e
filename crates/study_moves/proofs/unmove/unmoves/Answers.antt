use Rattle.std.proofs.Common.{◌≡◌, ◌∙◌, sym, ap, arith, true}
use Rattle.study_board.specs.declared.men.Side.{Side}
use Rattle.study_board.specs.Men.{same_side, other_side}
use Rattle.study_board.proofs.EqualMen.{side_same}
use Rattle.study_moves.proofs.LastMoves.{men_begin, men_end, apart_so_far, has_room, man_more, man_passed}
use Rattle.study_moves.proofs.unmove.unmoves.Goals as goal
use Rattle.study_moves.proofs.unmove.unmoves.Goals.{then-eq, else-eq}

pub loop-man-init : goal.loop-man-init
loop-man-init c = men_begin c.args.q.now c.men-men.ensures.valid c.men-men.result.now c.men-men.ensures.value c.new-list.result.items c.new-list.ensures

pub add_unmoves_of-requires-clause-room : goal.add_unmoves_of-requires-clause-room
add_unmoves_of-requires-clause-room c =
    let his : same_side c.man-item.result.side (other_side c.args.q.now.to_move) ≡ true =
    sym (c.eq.ensures ∙ side_same _ _ ∙ ap (λ (s : Side). same_side c.man-item.result.side s) (c.other-side.ensures ∙ ap other_side c.to_move.ensures))
    ∙ c.if-eq.true in
    has_room c.args.q.now c.men-men.ensures.valid c.men-men.result.now c.men-men.ensures.value c.loop-man.man-index
    _ c.man-item.result _ c.loop-man-test.true c.man-item.is c.loop-man.invariant his

pub add_unmoves_of-requires-clause-once : goal.add_unmoves_of-requires-clause-once
add_unmoves_of-requires-clause-once c = c.loop-man.invariant.once

pub add_unmoves_of-requires-clause-apart : goal.add_unmoves_of-requires-clause-apart
add_unmoves_of-requires-clause-apart c =
    apart_so_far c.args.q.now c.men-men.ensures.valid c.men-men.result.now c.men-men.ensures.value
    c.loop-man.man-index _ c.man-item.result _ c.loop-man-test.true c.man-item.is c.loop-man.invariant

pub loop-man-preserved : goal.loop-man-preserved
loop-man-preserved c =
    let side : same_side c.man-item.result.side (other_side c.args.q.now.to_move) ≡ c.eq.result =
    sym (c.eq.ensures ∙ side_same _ _ ∙ ap (λ (s : Side). same_side c.man-item.result.side s) (c.other-side.ensures ∙ ap other_side c.to_move.ensures)) in
    elim c.if-eq.branch [
      | then-eq w ↦ rw w.list-is
          (man_more c.args.q.now c.men-men.ensures.valid c.men-men.result.now c.men-men.ensures.value
          c.loop-man.man-index _ c.man-item.result _ c.loop-man-test.true c.man-item.is c.loop-man.invariant
          (side ∙ w.if-eq.true) w.add_unmoves_of.new.list.items w.add_unmoves_of.ensures.more
          w.add_unmoves_of.ensures.once w.add_unmoves_of.ensures.few)
      | else-eq w ↦ rw w.list-is
          (man_passed c.args.q.now c.men-men.ensures.valid c.men-men.result.now c.men-men.ensures.value
          c.loop-man.man-index _ c.man-item.result _ c.loop-man-test.true c.man-item.is c.loop-man.invariant
          (side ∙ w.if-eq.false))
    ]

pub returns-clause-exact : goal.returns-clause-exact
returns-clause-exact c =
    men_end c.args.q.now c.men-men.ensures.valid c.men-men.result.now c.men-men.ensures.value c.loop-man.man-index
    c.loop-man.list.items (omega arith) c.loop-man.invariant

pub returns-clause-once : goal.returns-clause-once
returns-clause-once c = c.loop-man.invariant.once

use Rattle.std.proofs.Common.{◌≡◌, ◌∙◌, ◌*◌, sym, arith, subst, ap, List, inl, inr, length, drop}
use Rattle.study_board.specs.declared.men.Man.{Man}
use Rattle.study_board.specs.declared.men.Side.{Side}
use Rattle.study_board.specs.Men.{same_side}
use Rattle.study_moves.specs.declared.moves.Move.{Move}
use Rattle.study_moves.specs.Order.{AreMovesBelow}
use Rattle.study_board.proofs.EqualMen.{side_same}
use Rattle.study_moves.proofs.NoManBetween.{first_at}
use Rattle.study_moves.proofs.ManByMan.{men_begin, men_more, men_end, man_here, man_begins}
use Rattle.study_moves.proofs.LegalLists.{legal_list_is}
use Rattle.study_moves.proofs.FewMoves.{most_of, most_of-mine, most_of-next, most_of-valid}
use Rattle.study_moves.proofs.movegen.legal_moves.Goals as goal
use Rattle.study_moves.proofs.movegen.legal_moves.Goals.{then-eq, else-eq}

pub loop-man-init : goal.loop-man-init
loop-man-init c =
    let e = c.men-men.ensures.value in
    let P : List Man → Type 0 = λ l. AreMovesBelow c.args.p.now c.new-list.result.items (512 * first_at l) in
    let Q : List Move → Type 0 = λ l. AreMovesBelow c.args.p.now l (512 * first_at c.args.p.now.men) in
    record {
      listed = subst P (sym e) (subst Q (sym c.new-list.ensures) (men_begin c.args.p.now c.men-men.ensures.valid));
      few =
          let all : most_of c.to_move-side.result (drop 0 c.men-men.result.now) ≡ most_of c.args.p.now.to_move c.args.p.now.men = rw (
            e,
            c.to_move-side.ensures,
          ) in
          omega (arith, ap (λ (l : List Move). length l) c.new-list.ensures, all, most_of-valid c.args.p.now c.men-men.ensures.valid);
    }

pub add_moves_of-requires-clause-here : goal.add_moves_of-requires-clause-here
add_moves_of-requires-clause-here c =
    man_here c.args.p.now c.men-men.result.now c.loop-man.man-index _ c.man-item.result c.men-men.ensures.value
    c.men-men.ensures.valid c.loop-man-test.true c.man-item.is

pub add_moves_of-requires-clause-before : goal.add_moves_of-requires-clause-before
add_moves_of-requires-clause-before c =
    man_begins c.args.p.now c.men-men.result.now c.loop-man.man-index _ c.man-item.result c.loop-man.list.items
    c.loop-man-test.true c.man-item.is c.loop-man.invariant.listed

pub add_moves_of-requires-clause-mine : goal.add_moves_of-requires-clause-mine
add_moves_of-requires-clause-mine c =
    sym (c.eq.ensures ∙ side_same _ _ ∙ ap (λ (s : Side). same_side c.man-item.result.side s) c.to_move-side.ensures) ∙ c.if-eq.true

pub add_moves_of-requires-clause-room : goal.add_moves_of-requires-clause-room
add_moves_of-requires-clause-room c =
    let mine = most_of-mine c.to_move-side.result c.men-men.result.now c.loop-man.man-index _ c.man-item.result c.loop-man-test.true c.man-item.is
    (sym (c.eq.ensures ∙ side_same _ _) ∙ c.if-eq.true) in
    omega (arith, c.loop-man.invariant.few, mine)

pub loop-man-preserved : goal.loop-man-preserved
loop-man-preserved c =
    let more = men_more c.args.p.now c.men-men.result.now c.loop-man.man-index _ c.man-item.result
    c.loop-man.list.items c.if-eq.list.items c.men-men.ensures.value c.men-men.ensures.valid c.loop-man-test.true
    c.man-item.is in
    let side : same_side c.man-item.result.side c.args.p.now.to_move ≡ c.eq.result =
    sym (c.eq.ensures ∙ side_same _ _ ∙ ap (λ (s : Side). same_side c.man-item.result.side s) c.to_move-side.ensures) in
    let i = c.loop-man.man-index in
    let lt = c.loop-man-test.true in
    elim c.if-eq.branch [
      | then-eq w ↦ record {
        listed = more (inl (side ∙ w.if-eq.true, rw w.list-is w.add_moves_of.ensures.after))
            c.loop-man.invariant.listed;
        few = rw w.list-is
            (let mine = most_of-mine c.to_move-side.result c.men-men.result.now i _ c.man-item.result lt c.man-item.is (sym (c.eq.ensures ∙ side_same _ _)
            ∙ w.if-eq.true) in
            omega (arith, w.add_moves_of.ensures.few, c.loop-man.invariant.few, mine));
      }
      | else-eq w ↦ record {
        listed = more (inr (side ∙ w.if-eq.false, rw w.list-is)) c.loop-man.invariant.listed;
        few = rw w.list-is (omega (arith, c.loop-man.invariant.few, most_of-next c.to_move-side.result c.men-men.result.now i c.man-item.result lt));
      }
    ]

pub returns-clause-legal : goal.returns-clause-legal
returns-clause-legal c =
    let e = c.men-men.ensures.value in
    let P : List Man → Type 0 = λ l. AreMovesBelow c.args.p.now c.loop-man.list.items (512 * first_at (drop c.loop-man.man-index l)) in
    men_end c.args.p.now c.men-men.ensures.valid c.loop-man.man-index c.loop-man.list.items
    (omega (arith, c.loop-man-test.false, ap (λ (l : List Man). length l) e)) (subst P e c.loop-man.invariant.listed)

pub returns-clause-listed : goal.returns-clause-listed
returns-clause-listed c =
    let e = c.men-men.ensures.value in
    let P : List Man → Type 0 = λ l. AreMovesBelow c.args.p.now c.loop-man.list.items (512 * first_at (drop c.loop-man.man-index l)) in
    let legal = men_end c.args.p.now c.men-men.ensures.valid c.loop-man.man-index c.loop-man.list.items
    (omega (arith, c.loop-man-test.false, ap (λ (l : List Man). length l) e))
    (subst P e c.loop-man.invariant.listed) in
    legal_list_is c.args.p.now c.loop-man.list.items c.men-men.ensures.valid legal c.loop-man.invariant.listed.ordered

use Rattle.std.proofs.Common.{◌≡◌, ℕ, suc, ◌+◌, ◌<◌, List, ◌∷◌, ◌++◌, drop, length, sym, ap, ◌∙◌, get_or, arith, drop-cons}
use Rattle.study_board.specs.Position.{Position}
use Rattle.study_moves.specs.declared.moves.Move.{Move}
use Rattle.study_notation.specs.SanSpelling.{move_text}
use Rattle.study_text.proofs.TextTaken.{Wrote-cut, Wrote-stops_at, OnErr-known}
use Rattle.study_reply.specs.Words.{moves_listed}
use Rattle.study_reply.proofs.reply_text.put_moves.Goals as goal

-- the next move, and then the moves after it
listed-next : (p : Position) (ms : List Move) (i : ℕ) (m : Move) → i < length ms → m ≡ get_or ms i m
    → moves_listed p (drop i ms) ≡ (32 ∷ move_text p m) ++ moves_listed p (drop (i + 1) ms)
listed-next p ms i m lt e =
    let next : suc i ≡ i + 1 = omega arith in
    ap (moves_listed p) (drop-cons ms i m lt)
    ∙ ap (λ (x : Move). (32 ∷ move_text p x) ++ moves_listed p (drop (suc i) ms)) (sym e)
    ∙ ap (λ k. (32 ∷ move_text p m) ++ moves_listed p (drop k ms)) next

pub returns-in_err-put_move-clause-err : goal.returns-in_err-put_move-clause-err
returns-in_err-put_move-clause-err g c =
    let p = c.args.p.now in
    let ms = c.args.moves.now in
    let i = c.loop-m.m-index in
    OnErr-known _ _ (Wrote-stops_at (g.W.Write.contents c.args.out.now) (g.W.Write.contents c.loop-m.out)
    (g.W.Write.contents c.put_move.new.out) (moves_listed p ms) (moves_listed p (drop i ms))
    (32 ∷ move_text p c.m-item.result) (moves_listed p (drop (i + 1) ms)) c.loop-m.invariant
    (listed-next p ms i c.m-item.result c.loop-m-test.true c.m-item.is) c.in_err-put_move.ensures.err)

pub loop-m-preserved : goal.loop-m-preserved
loop-m-preserved g c =
    let p = c.args.p.now in
    let ms = c.args.moves.now in
    let i = c.loop-m.m-index in
    Wrote-cut (g.W.Write.contents c.args.out.now) (g.W.Write.contents c.loop-m.out)
    (g.W.Write.contents c.put_move.new.out) (moves_listed p ms) (moves_listed p (drop i ms))
    (32 ∷ move_text p c.m-item.result) (moves_listed p (drop (i + 1) ms)) c.loop-m.invariant
    (listed-next p ms i c.m-item.result c.loop-m-test.true c.m-item.is) c.in_ok-put_move.ensures.ok

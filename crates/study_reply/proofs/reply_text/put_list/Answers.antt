use Rattle.std.proofs.Common.{◌≡◌, ◌<◌, ℕ, List, ◌∷◌, ◌++◌, [], length, sym, ap, ◌∙◌, arith, subst}
use Rattle.std.specs.Prelude.{codes, decimal}
use Rattle.std.proofs.lemmas.Bool.{eqb-false}
use Rattle.std.proofs.lemmas.List.{append-nil}
use Rattle.std.proofs.lemmas.Result.{on_err_weaker}
use Rattle.study_board.specs.Position.{Position}
use Rattle.study_moves.specs.declared.moves.Move.{Move}
use Rattle.std.specs.Io.KnownBytes.{Appends}
use Rattle.study_text.specs.Taken.{TakesPrefix}
use Rattle.study_text.proofs.TextTaken.{TakesPrefix-first, TakesPrefix-second, TakesPrefix-same, OnErr-known}
use Rattle.study_reply.specs.Words.{moves_listed, list_text}
use Rattle.study_reply.proofs.reply_text.put_list.Goals as goal

-- the number of moves
abbrev front : ℕ → List ℕ
front n = codes "moves " ++ (decimal n ++ [])

text_some : (p : Position) (ms : List Move) (n : ℕ) → n ≡ length ms → 0 < length ms → list_text p ms ≡ front n ++ (moves_listed p ms ++ 10 ∷ [])
text_some p [] n e h = absurd (omega arith)
text_some p (m ∷ ms) n e h = ap (λ (t : List ℕ). codes "moves " ++ (t ++ (moves_listed p (m ∷ ms) ++ 10 ∷ [])))
    (sym (append-nil (decimal (length (m ∷ ms)))) ∙ ap (λ (k : ℕ). decimal k ++ []) (sym e))

pub returns-in_err-write_pieces-clause-err : goal.returns-in_err-write_pieces-clause-err
returns-in_err-write_pieces-clause-err g c =
    let p = c.args.p.now in
    let ms = c.args.moves.now.items in
    let n = c.len.result in
    let ne = eqb-false _ _ (sym c.is_empty.ensures ∙ c.if-is_empty.false) in
    OnErr-known _ _ (TakesPrefix-same _ _ (front n ++ (moves_listed p ms ++ 10 ∷ [])) (list_text p ms) (text_some p ms n c.len.ensures.value (omega arith))
    (TakesPrefix-first _ _ (front n) (moves_listed p ms ++ 10 ∷ []) c.in_err-write_pieces.ensures.err))

pub returns-in_err-put_moves-clause-err : goal.returns-in_err-put_moves-clause-err
returns-in_err-put_moves-clause-err g c =
    let one = g.W.Write.contents c.write_pieces.new.out in
    let p = c.args.p.now in
    let ms = c.args.moves.now.items in
    let n = c.len.result in
    let ne = eqb-false _ _ (sym c.is_empty.ensures ∙ c.if-is_empty.false) in
    OnErr-known _ _ (TakesPrefix-same _ _ (front n ++ (moves_listed p ms ++ 10 ∷ [])) (list_text p ms) (text_some p ms n c.len.ensures.value (omega arith))
    (TakesPrefix-second _ one _ (front n) (moves_listed p ms ++ 10 ∷ []) c.in_ok-write_pieces.ensures.ok
    (TakesPrefix-first _ _ (moves_listed p ms) (10 ∷ [])
    (subst (λ (l : List Move). TakesPrefix one (g.W.Write.contents c.put_moves.new.out) (moves_listed p l))
    c.as_slice.ensures.value c.in_err-put_moves.ensures.err))))

pub returns-clause-err : goal.returns-clause-err
returns-clause-err g c =
    let old = g.W.Write.contents c.args.out.now in
    let new = g.W.Write.contents c.write_pieces-2.new.out in
    let one = g.W.Write.contents c.write_pieces.new.out in
    let two = g.W.Write.contents c.put_moves.new.out in
    let p = c.args.p.now in
    let ms = c.args.moves.now.items in
    let n = c.len.result in
    let ne = eqb-false _ _ (sym c.is_empty.ensures ∙ c.if-is_empty.false) in
    on_err_weaker {P = TakesPrefix two new (10 ∷ [])} {Q = TakesPrefix old new (list_text p ms)} c.write_pieces-2.result
    (λ h. TakesPrefix-same _ _ (front n ++ (moves_listed p ms ++ 10 ∷ [])) (list_text p ms) (text_some p ms n c.len.ensures.value (omega arith))
    (TakesPrefix-second _ one _ (front n) (moves_listed p ms ++ 10 ∷ []) c.in_ok-write_pieces.ensures.ok
    (TakesPrefix-second _ two _ (moves_listed p ms) (10 ∷ [])
    (subst (λ (l : List Move). Appends one two (moves_listed p l)) c.as_slice.ensures.value c.in_ok-put_moves.ensures.ok) h)))
    c.write_pieces-2.ensures.err

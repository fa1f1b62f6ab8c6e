use Rattle.std.proofs.Common.{◌≡◌, ℕ, suc, ◌+◌, ◌<◌, List, ◌++◌, drop, length, ap, ◌∙◌, get_or, arith, drop-cons}
use Rattle.std.specs.List.{flat_map}
use Rattle.study_text.specs.declared.pieces.Piece.{Piece}
use Rattle.study_text.specs.Pieces.{piece_text}
use Rattle.study_text.proofs.TextTaken.{Wrote-cut, Wrote-stops_at, OnErr-known}
use Rattle.study_text.proofs.pieces.write_pieces.Goals as goal

-- the next piece, and then the pieces after it
pieces-next : (ps : List Piece) (i : ℕ) (d : Piece) → i < length ps
    → flat_map piece_text (drop i ps) ≡ piece_text (get_or ps i d) ++ flat_map piece_text (drop (i + 1) ps)
pieces-next ps i d lt =
    let next : suc i ≡ i + 1 = omega arith in
    ap (flat_map piece_text) (drop-cons ps i d lt)
    ∙ ap (λ k. piece_text (get_or ps i d) ++ flat_map piece_text (drop k ps)) next

pub returns-in_err-write_piece-clause-err : goal.returns-in_err-write_piece-clause-err
returns-in_err-write_piece-clause-err g c =
    OnErr-known _ _ (Wrote-stops_at _ _ _ _ _ _ _ c.loop-piece.invariant
    (pieces-next c.args.pieces.now c.loop-piece.piece-index _ c.loop-piece-test.true) c.in_err-write_piece.ensures.err)

pub loop-piece-preserved : goal.loop-piece-preserved
loop-piece-preserved g c =
    Wrote-cut _ _ _ _ _ _ _ c.loop-piece.invariant
    (pieces-next c.args.pieces.now c.loop-piece.piece-index _ c.loop-piece-test.true) c.in_ok-write_piece.ensures.ok

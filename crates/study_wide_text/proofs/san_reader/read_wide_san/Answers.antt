use Rattle.std.proofs.Common.{◌≡◌, true, sym, ap, ◌∙◌, subst}
use Rattle.std.specs.Prelude.{Result, IfOk}
use Rattle.study_board.specs.declared.men.Side.{Side}
use Rattle.study_moves.specs.declared.moves.Move.{Move}
use Rattle.study_notation.specs.declared.fault.SanFault.{SanFault}
use Rattle.study_wide.specs.Castling.{castling_move}
use Rattle.study_wide.specs.Rules.{is_wide_legal}
use Rattle.study_wide_text.proofs.MeansLegal.{castling_legal, means_legal}
use Rattle.study_wide_text.proofs.san_reader.read_wide_san.Goals as goal

pub returns-then-can_castle-clause-legal : goal.returns-then-can_castle-clause-legal
returns-then-can_castle-clause-legal c =
    let g = c.args.p.now in
    let w = c.in-Some.wing in
    let m = c.castling_move.ensures ∙ ap (λ (s : Side). castling_move s w) c.to_move.ensures in
    subst (λ (z : Move). is_wide_legal g z ≡ true) (sym m) (castling_legal g w (sym c.can_castle.ensures ∙ c.if-can_castle.true))

pub returns-in-None-clause-legal : goal.returns-in-None-clause-legal
returns-in-None-clause-legal c =
    subst (λ (r : Result Move SanFault). IfOk r (λ m. is_wide_legal c.args.p.now m ≡ true)) (sym c.read_move.ensures)
    (means_legal c.args.p.now c.as_bytes-bytes.result.now)

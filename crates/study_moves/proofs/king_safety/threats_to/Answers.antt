use Rattle.std.proofs.Common.{◌∙◌, sym}
use Rattle.study_board.specs.Men.{other_side}
use Rattle.study_board.proofs.SetBits.{none_unless}
use Rattle.study_moves.specs.KingSafety.{threatened_past}
use Rattle.study_moves.proofs.king_safety.threats_to.Goals as goal

pub returns-else-is_king_elsewhere : goal.returns-else-is_king_elsewhere
returns-else-is_king_elsewhere c x lx =
    rw c.empty.ensures
    (none_unless _ (threatened_past c.args.men.now (other_side c.args.side) c.args.lifted c.args.k.now.at x) x
    (sym c.is_king_elsewhere.ensures ∙ c.if-is_king_elsewhere.false))

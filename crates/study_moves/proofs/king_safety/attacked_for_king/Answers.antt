use Rattle.std.proofs.Common.{◌∙◌, sym}
use Rattle.study_board.specs.Men.{other_side}
use Rattle.study_board.specs.declared.men.Kind.TheVariants.{King}
use Rattle.study_board.proofs.EqualMen.{kind_same}
use Rattle.study_board.proofs.SetBits.{none_unless}
use Rattle.study_moves.specs.KingSafety.{attacked_past}
use Rattle.study_moves.proofs.king_safety.attacked_for_king.Goals as goal

pub returns-else-eq : goal.returns-else-eq
returns-else-eq c x lx = rw c.empty.ensures (none_unless _ (attacked_past c.args.men.now (other_side c.args.side) c.args.man.now.at x) x
    (sym (c.eq.ensures ∙ kind_same c.args.man.now.kind King) ∙ c.if-eq.false))

use Rattle.std.proofs.Common.{◌∙◌, sym, ◌&&◌}
use Rattle.study_board.specs.Men.{other_side}
use Rattle.study_board.specs.Sets.{bears_past}
use Rattle.study_board.specs.declared.men.Kind.TheVariants.{King}
use Rattle.study_board.proofs.EqualMen.{kind_same}
use Rattle.study_board.proofs.SetBits.{none_unless}
use Rattle.study_moves.specs.KingSafety.{is_other_man}
use Rattle.study_moves.proofs.targets.closed_to_king.Goals as goal

pub returns-else-eq : goal.returns-else-eq
returns-else-eq c x lx =
    rw c.empty.ensures
    (none_unless _ (is_other_man (other_side c.args.side) c.args.man.now.at c.args.m.now && bears_past c.args.men.now c.args.man.now.at c.args.m.now x) x
    (sym (c.eq.ensures ∙ kind_same c.args.man.now.kind King) ∙ c.if-eq.false))

use Rattle.std.proofs.Common.{◌∙◌, sym}
use Rattle.study_board.specs.Men.{attacks_square}
use Rattle.study_board.proofs.EqualMen.{side_same}
use Rattle.study_board.proofs.SetBits.{none_unless}
use Rattle.study_retro.proofs.numbers.quiet.attacks_if_side.Goals as goal

pub returns-else-eq : goal.returns-else-eq
returns-else-eq c x lx = rw c.empty.ensures (none_unless _ (attacks_square c.args.men.now c.args.m.now x) x (sym (c.eq.ensures ∙ side_same _ _)
    ∙ c.if-eq.false))

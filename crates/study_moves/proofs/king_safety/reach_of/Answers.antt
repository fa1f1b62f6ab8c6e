use Rattle.std.proofs.Common.{◌∙◌, sym}
use Rattle.study_board.specs.Sets.{bears_past}
use Rattle.study_board.proofs.SetBits.{none_unless}
use Rattle.study_moves.proofs.king_safety.reach_of.Goals as goal

pub returns-else-is_other_man : goal.returns-else-is_other_man
returns-else-is_other_man c x lx = rw c.empty.ensures (none_unless _ (bears_past c.args.men.now c.args.lifted c.args.m.now x) x (sym c.is_other_man.ensures
    ∙ c.if-is_other_man.false))

use Rattle.std.proofs.Common.{◌∙◌, sym, ◌==◌}
use Rattle.study_board.proofs.EqualMen.{side_same}
use Rattle.study_moves.proofs.TargetSets.{none_unless}
use Rattle.study_moves.proofs.targets.set_if_side.Goals as goal

pub returns-else-eq : goal.returns-else-eq
returns-else-eq c x lx = rw c.empty.ensures (none_unless _ (c.args.m.now.at == x) x (sym (c.eq.ensures ∙ side_same _ _) ∙ c.if-eq.false))

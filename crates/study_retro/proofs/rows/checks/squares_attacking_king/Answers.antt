use Rattle.std.proofs.Common.{sym, ◌∙◌}
use Rattle.study_board.proofs.SetBits.{none_unless}
use Rattle.study_retro.proofs.rows.checks.squares_attacking_king.Goals as goal

pub returns-then-not-is : goal.returns-then-not-is
returns-then-not-is c y ly = rw c.empty.ensures (none_unless _ _ y (sym c.is.ensures ∙ c.if-not-is.true))

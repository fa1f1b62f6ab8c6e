use Rattle.study_board.proofs.SetBits.{has-zero}
use Rattle.study_moves.proofs.targets.passed_set.Goals as goal

pub returns-in-None : goal.returns-in-None
returns-in-None c x lx = rw (c.empty.ensures, c.in-None.is) (has-zero x)

use Rattle.study_notation.proofs.MoveAgain.{move_again}
use Rattle.study_notation.proofs.laws.san_is_read_again.Goals as goal

pub returns : goal.returns
returns c = move_again

use Rattle.study_wide_text.proofs.WideMoveAgain.{move_again}
use Rattle.study_wide_text.proofs.laws.wide_san_is_read_again.Goals as goal

pub returns : goal.returns
returns c = move_again

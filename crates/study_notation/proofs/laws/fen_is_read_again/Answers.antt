use Rattle.study_notation.proofs.FenAgain.{start_again}
use Rattle.study_notation.proofs.laws.fen_is_read_again.Goals as goal

pub returns : goal.returns
returns c = start_again

use Rattle.study_wide_text.proofs.WideFen.{start_again}
use Rattle.study_wide_text.proofs.laws.wide_fen_is_read_again.Goals as goal

pub returns : goal.returns
returns c = start_again

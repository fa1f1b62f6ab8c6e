use Rattle.study_wide_text.proofs.FenAgrees.{fen_agrees}
use Rattle.study_wide_text.proofs.laws.fen_agrees.Goals as goal

pub returns : goal.returns
returns c = fen_agrees

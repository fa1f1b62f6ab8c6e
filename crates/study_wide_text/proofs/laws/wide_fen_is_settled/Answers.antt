use Rattle.study_wide_text.proofs.WideFen.{read_is, settled}
use Rattle.study_wide_text.proofs.laws.wide_fen_is_settled.Goals as goal

pub returns-clause-valid : goal.returns-clause-valid
returns-clause-valid c = λ text s e. (read_is text s e).valid

pub returns-clause-again : goal.returns-clause-again
returns-clause-again c = settled

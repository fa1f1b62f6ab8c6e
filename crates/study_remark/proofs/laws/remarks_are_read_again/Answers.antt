use Rattle.study_remark.proofs.ReadAgain.{read_again, no_remarks}
use Rattle.study_remark.proofs.laws.remarks_are_read_again.Goals as goal

pub returns-clause-again : goal.returns-clause-again
returns-clause-again c = read_again

pub returns-clause-others : goal.returns-clause-others
returns-clause-others c = no_remarks

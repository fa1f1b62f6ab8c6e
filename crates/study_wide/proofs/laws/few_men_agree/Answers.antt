use Rattle.study_wide.proofs.FewMen.{few_agree, small_valid}
use Rattle.study_wide.proofs.laws.few_men_agree.Goals as goal

pub returns-clause-agree : goal.returns-clause-agree
returns-clause-agree c = few_agree

pub returns-clause-small : goal.returns-clause-small
returns-clause-small c = small_valid

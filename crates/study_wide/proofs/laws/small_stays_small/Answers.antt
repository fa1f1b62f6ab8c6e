use Rattle.study_wide.proofs.FewMen.{small_stays}
use Rattle.study_wide.proofs.laws.small_stays_small.Goals as goal

pub returns : goal.returns
returns c = small_stays

use Rattle.study_search.proofs.AllFound.{all-found}
use Rattle.study_search.proofs.laws.next_founds_are_all.Goals as goal

pub returns : goal.returns
returns c = all-found

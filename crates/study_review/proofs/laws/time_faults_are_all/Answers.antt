use Rattle.study_review.proofs.TimeFaultsAll.{all-or-not}
use Rattle.study_review.proofs.laws.time_faults_are_all.Goals as goal

pub returns : goal.returns
returns c = all-or-not c.values_are_unique.ensures

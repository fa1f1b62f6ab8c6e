use Rattle.study_import.proofs.Placed.{listed}
use Rattle.study_import.proofs.laws.faults_are_listed.Goals as goal

pub returns : goal.returns
returns c = listed

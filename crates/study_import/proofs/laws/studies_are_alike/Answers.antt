use Rattle.study_import.proofs.Alike.{alike}
use Rattle.study_import.proofs.laws.studies_are_alike.Goals as goal

pub returns : goal.returns
returns c = alike

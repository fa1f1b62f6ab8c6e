use Rattle.study_import.proofs.RoundTrip.{read_back}
use Rattle.study_import.proofs.laws.studies_are_read_back.Goals as goal

pub returns : goal.returns
returns c = read_back

use Rattle.study_import.proofs.WideReadBack.{wide_read_back}
use Rattle.study_import.proofs.laws.wide_studies_are_read_back.Goals as goal

pub returns : goal.returns
returns c = wide_read_back

use Rattle.study_import.proofs.CutOut.{files_back}
use Rattle.study_import.proofs.laws.files_are_read_back.Goals as goal

pub returns : goal.returns
returns c = files_back

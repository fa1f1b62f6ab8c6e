use Rattle.study_marks.proofs.FaultsOfBlocks.{faults-of-rows}
use Rattle.study_marks.proofs.laws.faults_in_rows.Goals as goal

pub returns : goal.returns
returns c = faults-of-rows

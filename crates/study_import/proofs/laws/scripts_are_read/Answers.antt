use Rattle.study_import.proofs.GamesRead.{scripts_read}
use Rattle.study_import.proofs.laws.scripts_are_read.Goals as goal

pub returns : goal.returns
returns c = scripts_read

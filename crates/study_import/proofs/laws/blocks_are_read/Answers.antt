use Rattle.study_import.proofs.GamesRead.{are_read}
use Rattle.study_import.proofs.laws.blocks_are_read.Goals as goal

pub returns : goal.returns
returns c = are_read

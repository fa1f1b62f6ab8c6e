use Rattle.study_import.proofs.AllRead.{are_whole}
use Rattle.study_import.proofs.laws.games_are_read_whole.Goals as goal

pub returns : goal.returns
returns c = are_whole

use Rattle.study_moves.proofs.AlikeGames.{AgreesAlike-from}
use Rattle.study_moves.proofs.laws.alike_agree.Goals as goal

pub returns : goal.returns
returns c = AgreesAlike-from

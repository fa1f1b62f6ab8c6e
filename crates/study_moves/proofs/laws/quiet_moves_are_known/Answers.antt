use Rattle.study_moves.proofs.QuietImages.{known}
use Rattle.study_moves.proofs.laws.quiet_moves_are_known.Goals as goal

pub returns : goal.returns
returns c = known

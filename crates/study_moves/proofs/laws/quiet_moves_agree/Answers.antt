use Rattle.study_moves.proofs.QuietImages.{AgreesQuietly-from}
use Rattle.study_moves.proofs.laws.quiet_moves_agree.Goals as goal

pub returns : goal.returns
returns c = AgreesQuietly-from

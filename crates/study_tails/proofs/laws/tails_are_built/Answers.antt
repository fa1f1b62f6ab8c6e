use Rattle.study_tails.proofs.TailsBuilt.{tails_built}
use Rattle.study_tails.proofs.laws.tails_are_built.Goals as goal

pub returns : goal.returns
returns g c = tails_built _

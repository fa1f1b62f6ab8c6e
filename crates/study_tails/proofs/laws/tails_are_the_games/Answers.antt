use Rattle.study_tails.proofs.TailStudies.{tails_sound}
use Rattle.study_tails.proofs.laws.tails_are_the_games.Goals as goal

pub returns : goal.returns
returns c = tails_sound

use Rattle.study_wide.proofs.SameGames.{same_game}
use Rattle.study_wide.proofs.laws.few_men_have_the_same_game.Goals as goal

pub returns : goal.returns
returns c = same_game

use Rattle.study_games.proofs.Isolated.{isolated}
use Rattle.study_games.proofs.laws.games_are_isolated.Goals as goal

pub returns : goal.returns
returns c = isolated

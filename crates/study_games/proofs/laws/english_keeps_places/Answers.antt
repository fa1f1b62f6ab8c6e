use Rattle.study_games.proofs.Places.{places_kept}
use Rattle.study_games.proofs.laws.english_keeps_places.Goals as goal

pub returns : goal.returns
returns c = places_kept

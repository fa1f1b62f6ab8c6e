use Rattle.study_tree.proofs.PathEnds.{places-shown}
use Rattle.study_tree.proofs.laws.places_are_shown.Goals as goal

pub returns : goal.returns
returns g c = places-shown

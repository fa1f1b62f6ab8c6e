use Rattle.study_listing.proofs.PlacedImages.{placed-shown}
use Rattle.study_listing.proofs.laws.placed_are_shown.Goals as goal

pub returns : goal.returns
returns c = placed-shown c.bare_agrees.ensures

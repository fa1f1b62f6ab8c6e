use Rattle.study_listing.proofs.Shown.{images-listed_image}
use Rattle.study_listing.proofs.laws.images_are_shown.Goals as goal

pub returns : goal.returns
returns c = images-listed_image

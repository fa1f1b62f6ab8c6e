use Rattle.study_review.proofs.OneReview.{one-review}
use Rattle.study_review.proofs.laws.reviews_are_unique.Goals as goal

pub returns : goal.returns
returns c = one-review c.values_are_unique.ensures

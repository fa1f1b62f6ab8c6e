use Rattle.study_review.proofs.AlternativesCounted.{alternatives-counted}
use Rattle.study_review.proofs.laws.alternatives_are_counted.Goals as goal

pub returns : goal.returns
returns c = alternatives-counted c.values_are_unique.ensures c.duals_count_other_moves.ensures

use Rattle.study_listing.proofs.OneList.{lists-unique}
use Rattle.study_listing.proofs.laws.lists_are_unique.Goals as goal

pub returns : goal.returns
returns c = lists-unique c.values_are_unique.ensures

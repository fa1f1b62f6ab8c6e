use Rattle.study_listing.proofs.OneList.{lists-all}
use Rattle.study_listing.proofs.laws.lists_have_all.Goals as goal

pub returns : goal.returns
returns c = lists-all

use Rattle.study_listing.proofs.EachListed.{each-listed}
use Rattle.study_listing.proofs.laws.each_is_listed.Goals as goal

pub returns : goal.returns
returns c = each-listed c.bare_agrees.ensures c.each_is_found_once.ensures

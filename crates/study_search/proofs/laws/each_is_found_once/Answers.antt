use Rattle.study_search.proofs.EachFound.{each-found}
use Rattle.study_search.proofs.laws.each_is_found_once.Goals as goal

pub returns : goal.returns
returns c = each-found c.bare_agrees.ensures

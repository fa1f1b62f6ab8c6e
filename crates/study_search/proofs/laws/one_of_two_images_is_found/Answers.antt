use Rattle.study_search.proofs.EachFound.{one-of-two}
use Rattle.study_search.proofs.laws.one_of_two_images_is_found.Goals as goal

pub returns : goal.returns
returns c = one-of-two c.bare_agrees.ensures

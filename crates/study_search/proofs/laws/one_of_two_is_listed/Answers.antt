use Rattle.study_search.proofs.OneOfTwo.{one-of-two-listed}
use Rattle.study_search.proofs.laws.one_of_two_is_listed.Goals as goal

pub returns : goal.returns
returns c = one-of-two-listed c.bare_agrees.ensures c.values_are_unique.ensures

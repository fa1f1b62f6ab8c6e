use Rattle.study_zugzwang.proofs.Zugzwangs.{both-ways}
use Rattle.study_zugzwang.proofs.laws.zugzwangs_are_mutual.Goals as goal

pub returns : goal.returns
returns c = both-ways c.bare_agrees.ensures

use Rattle.study_head.proofs.OneFacts.{one-facts}
use Rattle.study_head.proofs.laws.solution_facts_are_unique.Goals as goal

pub returns : goal.returns
returns c = one-facts c.values_are_unique.ensures

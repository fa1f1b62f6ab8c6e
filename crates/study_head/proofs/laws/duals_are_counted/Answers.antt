use Rattle.study_head.proofs.VerdictLaws.{duals-counted}
use Rattle.study_head.proofs.laws.duals_are_counted.Goals as goal

pub returns : goal.returns
returns c = duals-counted

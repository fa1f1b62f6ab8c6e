use Rattle.std.proofs.Common.{sym, ◌∙◌}
use Rattle.study_facts.proofs.walk.last_state.Goals as goal

pub returns : goal.returns
returns g c = (_, sym c.as_slice.ensures.value ∙ c.in-Some.ensures.cases.0)

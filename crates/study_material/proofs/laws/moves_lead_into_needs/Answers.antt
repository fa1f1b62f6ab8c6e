use Rattle.study_material.proofs.MovesOn.{moves_lead_on}
use Rattle.study_material.proofs.laws.moves_lead_into_needs.Goals as goal

pub returns : goal.returns
returns c = moves_lead_on

use Rattle.study_view.proofs.OneView.{one-view}
use Rattle.study_view.proofs.laws.views_are_unique.Goals as goal

pub returns : goal.returns
returns c = one-view c.values_are_unique.ensures

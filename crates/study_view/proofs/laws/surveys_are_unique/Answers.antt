use Rattle.study_view.proofs.OneSurvey.{one-survey}
use Rattle.study_view.proofs.laws.surveys_are_unique.Goals as goal

pub returns : goal.returns
returns c = one-survey c.values_are_unique.ensures

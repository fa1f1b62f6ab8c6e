use Rattle.study_view.proofs.SurveyReported.{surveys-evaluated}
use Rattle.study_view.proofs.laws.surveys_tell_the_game.Goals as goal

pub returns : goal.returns
returns c = surveys-evaluated c.values_are_unique.ensures

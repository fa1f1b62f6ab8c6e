use Rattle.std.proofs.Common.{◌-◌}
use Rattle.study_view.proofs.survey_squares.+push_results_from.Given as goal

-- the squares that are left
abbrev pub decreases-push_results_from : goal.decreases-push_results_from
decreases-push_results_from g l = 64 - l.number

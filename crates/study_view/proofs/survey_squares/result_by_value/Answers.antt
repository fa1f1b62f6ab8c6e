use Rattle.std.proofs.Common.{sym, subst, ◌∙◌, ap}
use Rattle.study_view.specs.declared.survey_squares.SquareResult.{SquareResult}
use Rattle.study_view.specs.Shown.{IsPlayedIn}
use Rattle.study_view.specs.Survey.{result_by_moves}
use Rattle.study_view.proofs.Standings.{by-legal}
use Rattle.study_view.proofs.survey_squares.result_by_value.Goals as goal

pub returns-in-Ok-clause-legal : goal.returns-in-Ok-clause-legal
returns-in-Ok-clause-legal g c =
    subst (λ (s : SquareResult). IsPlayedIn c.args.q.now s) (sym (c.result_by_moves.ensures ∙ ap (result_by_moves c.args.value) c.as_slice.ensures.value))
    (by-legal c.args.q.now c.args.value c.in-Ok.list.items c.in-Ok.ensures.legal)

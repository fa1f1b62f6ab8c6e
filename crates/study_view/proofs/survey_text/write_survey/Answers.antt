use Rattle.std.proofs.Common.{List, ℕ, subst, ap, Err}
use Rattle.study_text.specs.Taken.{TakesPrefix}
use Rattle.study_view.specs.declared.fault.SurveyFault.TheVariants.{Device}
use Rattle.study_view.proofs.AllAsked.{refused-so}
use Rattle.study_view.proofs.survey_text.write_survey.Goals as goal

pub returns-in_err-text-clause-device : goal.returns-in_err-text-clause-device
returns-in_err-text-clause-device g c h e =
    absurd (c.in_err-text.ensures.device (ap Err (refused-so c.from_residual.result c.in_err-text.field-0.0 Device c.from_residual.ensures.1 e)))

pub returns-clause-device : goal.returns-clause-device
returns-clause-device g c h e = (
  c.in_ok-text.text,
  c.in_ok-text.ensures.text h,
  subst (λ (t : List ℕ). TakesPrefix (g.W.Write.contents c.args.out.now) (g.W.Write.contents c.write_text.new.out) t) c.as_slice.ensures c.in-Err.ensures.err,
)

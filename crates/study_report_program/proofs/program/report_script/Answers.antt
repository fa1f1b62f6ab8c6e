use Rattle.std.proofs.Common.{inl, inr}
use Rattle.study_report_program.proofs.program.report_script.Goals.{then-is_err, else-is_err}
use Rattle.study_report_program.proofs.program.report_script.Goals as goal

pub returns : goal.returns
returns g c = (
  c.report_over_files-answer.result,
  c.if-is_err.answer,
  (_, c.report_over_files-answer.ensures.reported, c.flush.ensures.bytes),
  elim c.if-is_err.branch [ then-is_err w ↦ inr w.answer-is | else-is_err w ↦ inl w.answer-is ],
  c.report_end.ensures.status,
  (λ quiet. (_, c.report_over_files-answer.ensures.faults quiet, c.report_end.ensures.stop)),
)

use Rattle.std.proofs.Common.{inl, inr}
use Rattle.study_program.proofs.Kept.{HasRun-kept}
use Rattle.study_program.proofs.program.answer_script.Goals.{then-is_err, else-is_err}
use Rattle.study_program.proofs.program.answer_script.Goals as goal

pub returns : goal.returns
returns g c = (
  c.run_over_files-answer.result,
  c.if-is_err.answer,
  HasRun-kept _ _ _ _ _ _ _ _ c.flush.ensures.bytes c.run_over_files-answer.ensures,
  elim c.if-is_err.branch [ then-is_err w ↦ inr w.answer-is | else-is_err w ↦ inl w.answer-is ],
  c.report_end.ensures.status,
  c.report_end.ensures.reported,
)

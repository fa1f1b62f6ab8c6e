use Rattle.std.proofs.Common.{inl, inr}
use Rattle.study_import_program.specs.Texts.{text_of}
use Rattle.study_import_program.proofs.Streamed.{has_run, reported_behind}
use Rattle.study_import_program.proofs.program.import_stream.Goals.{then-is_err, else-is_err}
use Rattle.study_import_program.proofs.program.import_stream.Goals as goal

pub returns : goal.returns
returns g c = (
  c.import_text-answer.result,
  c.if-is_err.answer,
  has_run c.args.options.now.choice (text_of c.args.options.now.encoding (g.R.Read.remaining c.args.games.now)) (g.W.Write.contents c.args.out.now)
      (g.W.Write.contents c.import_text-answer.new.out) (g.W.Write.contents c.flush.new.self) c.import_text-answer.result c.flush.ensures.bytes c.import_text-answer.ensures.ok
      c.import_text-answer.ensures.err,
  elim c.if-is_err.branch [ then-is_err w ↦ inr w.answer-is | else-is_err w ↦ inl w.answer-is ],
  c.report_end.ensures.status,
  λ none. reported_behind (g.E.Write.contents c.args.errors.now) (g.E.Write.contents c.import_text-answer.new.errors)
      (g.E.Write.contents c.report_end.new.errors)
      c.if-is_err.answer (c.import_text-answer.ensures.quiet none) c.report_end.ensures.reported,
)

use Rattle.std.proofs.Common.{subst}
use Rattle.study_find_program.specs.Ended.{IsStopReported}
use Rattle.study_find_program.proofs.program.list_over_values.Goals as goal

pub returns-clause-list : goal.returns-clause-list
returns-clause-list g c h =
    let answered = c.answer_whole-answered in (
      answered.result,
      c.report_end.ensures.status,
      answered.ensures.list h,
      (λ quiet. subst (λ w. IsStopReported answered.result (g.E.Write.contents w) (g.E.Write.contents c.report_end.new.errors))
          (answered.ensures.quiet quiet) c.report_end.ensures.stop),
    )

pub returns-clause-reported : goal.returns-clause-reported
returns-clause-reported g c =
    let answered = c.answer_whole-answered in (
      answered.result,
      c.report_end.ensures.status,
      (λ quiet. subst (λ w. IsStopReported answered.result (g.E.Write.contents w) (g.E.Write.contents c.report_end.new.errors))
          (answered.ensures.quiet quiet) c.report_end.ensures.stop),
    )

use Rattle.study_report.proofs.FirstAdded.{none_before}
use Rattle.study_report.proofs.script_report.write_report_over.Goals as goal

pub returns-in_default-clause-listed_before : goal.returns-in_default-clause-listed_before
returns-in_default-clause-listed_before g c = λ first reported holds kept.
    none_before g.T.Report.tells g.T.Report.refusal g.T.Report.remark (g.T.Report.lists c.args.report.now) reported (g.R.Read.remaining c.args.script.now)
    (g.W.Write.contents c.args.out.now) first kept

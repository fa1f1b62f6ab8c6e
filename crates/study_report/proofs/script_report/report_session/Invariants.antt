use Rattle.std.proofs.Common.{◌≤◌, List, ◌++◌}
use Rattle.study_command.specs.Lines.{GaveFeeds}
use Rattle.study_script.specs.State.{State}
use Rattle.study_script.specs.SessionHolds.{document_seen}
use Rattle.study_script.specs.Session.{SessionHolds}
use Rattle.study_script.specs.Stores.{HonestOn}
use Rattle.study_script.proofs.FirstLines.{Gone}
use Rattle.study_report.specs.Reported.{Entry}
use Rattle.study_report.specs.Written.{none_trusted}
use Rattle.study_report.proofs.FirstAdded.{ReportedOn}
use Rattle.study_report.proofs.PartsWritten.{HasParts}
use Rattle.study_report.proofs.script_report.report_session.Given as goal

abbrev pub invariant-loop-n : goal.invariant-loop-n
invariant-loop-n g l =
    ((first : State) → SessionHolds g.S.Pages.PageSource.honest g.S.Pages.PageSource.gives (HonestOn none_trusted g.S.TableStore.honest) g.S.TableStore.files
    g.S.TableStore.headers g.S.TableStore.faults
    l.fn.session.document l.fn.session.tables l.fn.session.store.now first
    → ReportedOn g.T.Report.tells g.T.Report.refusal g.T.Report.remark
    (SessionHolds g.S.Pages.PageSource.honest g.S.Pages.PageSource.gives (HonestOn none_trusted g.S.TableStore.honest) g.S.TableStore.files
    g.S.TableStore.headers g.S.TableStore.faults
    l.session.document l.session.tables l.session.store.now)
    (λ more. (reported : List Entry) → g.T.Report.lists l.fn.report reported → g.T.Report.lists l.report (reported ++ more))
    (g.R.Read.remaining l.fn.script) (g.R.Read.remaining l.script)
    (g.W.Write.contents l.fn.out) (g.W.Write.contents l.out) first l.n l.refused l.entries l.unread)
    × (l.refused ≤ l.n) × (l.entries ≤ l.n) × GaveFeeds (g.R.Read.remaining l.fn.script) (g.R.Read.remaining l.script) l.n
    × Gone (g.R.Read.remaining l.fn.script) (g.R.Read.remaining l.script) l.n
    × HasParts g.T.Report.form g.T.Report.refusal g.T.Report.remark (document_seen l.fn.session.document) (document_seen l.session.document)
    (g.R.Read.remaining l.fn.script) (g.R.Read.remaining l.script)
    (g.W.Write.contents l.fn.out) (g.W.Write.contents l.out) l.n l.refused l.entries l.unread

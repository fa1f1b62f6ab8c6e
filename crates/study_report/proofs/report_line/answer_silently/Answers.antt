use Rattle.std.proofs.Common.{true, false, refl}
use Rattle.study_reply.specs.Replied.{error_text, line_text}
use Rattle.study_script.specs.SessionHolds.{document_seen}
use Rattle.study_script.specs.Session.{SessionHolds}
use Rattle.study_script.specs.Stores.{HonestOn}
use Rattle.study_report.specs.Written.{none_trusted}
use Rattle.study_report.specs.declared.line_kind.LineKind.TheVariants.{Checked}
use Rattle.study_report.specs.Reported.{IsAddedAs}
use Rattle.study_report.proofs.LineAdds.{checked-refused, replied-adds, replied-stops, checked-nothing, refusal-none, executed-refused, executed-done}
use Rattle.study_report.proofs.PartsWritten.{checked-refusal, checked-silent, refused-piece, done-piece, next-done, next-refused}
use Rattle.study_report.proofs.report_line.answer_silently.Goals as goal

pub returns-clause-ok : goal.returns-clause-ok
returns-clause-ok g c = λ p trust held at.
    let H = (SessionHolds g.S.Pages.PageSource.honest g.S.Pages.PageSource.gives (HonestOn none_trusted g.S.TableStore.honest) g.S.TableStore.files
    g.S.TableStore.headers g.S.TableStore.faults c.execute_apart.new.self.document c.execute_apart.new.self.tables c.execute_apart.new.self.store.now) in
    replied-adds g.T.Report.tells g.T.Report.refusal g.T.Report.remark
    (IsAddedAs g.T.Report.tells g.T.Report.refusal g.T.Report.remark Checked p c.args.line.now) H p c.args.line.now c.args.number
    (error_text c.in-Err.refused) true c.add_refusal.result (g.W.Write.contents c.args.out.now) (g.W.Write.contents c.add_refusal.new.out)
    (checked-refused g.T.Report.tells g.T.Report.refusal g.T.Report.remark p c.args.line.now) at refl
    (executed-refused p.state c.args.line.now H c.execute_apart.result c.in-Err.refused c.in-Err.is
    (c.execute_apart.ensures.done none_trusted p.state trust held)) c.add_refusal.ensures.ok

pub returns-clause-err : goal.returns-clause-err
returns-clause-err g c = λ p trust held at.
    let H = (SessionHolds g.S.Pages.PageSource.honest g.S.Pages.PageSource.gives (HonestOn none_trusted g.S.TableStore.honest) g.S.TableStore.files
    g.S.TableStore.headers g.S.TableStore.faults c.execute_apart.new.self.document c.execute_apart.new.self.tables c.execute_apart.new.self.store.now) in
    replied-stops g.T.Report.tells g.T.Report.refusal g.T.Report.remark
    (IsAddedAs g.T.Report.tells g.T.Report.refusal g.T.Report.remark Checked p c.args.line.now) H p c.args.line.now c.args.number
    (error_text c.in-Err.refused) true c.add_refusal.result (g.W.Write.contents c.args.out.now) (g.W.Write.contents c.add_refusal.new.out)
    (checked-refused g.T.Report.tells g.T.Report.refusal g.T.Report.remark p c.args.line.now) at refl
    (executed-refused p.state c.args.line.now H c.execute_apart.result c.in-Err.refused c.in-Err.is
    (c.execute_apart.ensures.done none_trusted p.state trust held)) c.add_refusal.ensures.err

pub returns-in-Ok-clause-ok : goal.returns-in-Ok-clause-ok
returns-in-Ok-clause-ok g c = λ p trust held at.
    let H = (SessionHolds g.S.Pages.PageSource.honest g.S.Pages.PageSource.gives (HonestOn none_trusted g.S.TableStore.honest) g.S.TableStore.files
    g.S.TableStore.headers g.S.TableStore.faults c.execute_apart.new.self.document c.execute_apart.new.self.tables c.execute_apart.new.self.store.now) in
    checked-nothing g.T.Report.tells g.T.Report.refusal g.T.Report.remark H p c.args.line.now (line_text c.execute_apart.result) false
    (g.W.Write.contents c.args.out.now) refl
    (executed-done p.state c.args.line.now H c.execute_apart.result c.in-Ok.field-0 c.in-Ok.is
    (c.execute_apart.ensures.done none_trusted p.state trust held))

pub returns-clause-none_reported : goal.returns-clause-none_reported
returns-clause-none_reported g c =
    refusal-none c.add_refusal.result _ (g.W.Write.contents _) (g.W.Write.contents c.add_refusal.new.out) c.add_refusal.ensures.ok

pub returns-clause-written : goal.returns-clause-written
returns-clause-written g c = λ next.
    checked-refusal g.T.Report.form g.T.Report.refusal g.T.Report.remark (document_seen c.args.session.now.document)
    c.args.line.now c.args.number next (error_text c.in-Err.refused) true
    c.add_refusal.result (g.W.Write.contents c.args.out.now) (g.W.Write.contents c.add_refusal.new.out)
    (refused-piece c.args.line.now c.execute_apart.result c.in-Err.refused c.in-Err.is c.execute_apart.ensures.piece) refl c.add_refusal.ensures.ok

pub returns-in-Ok-clause-written : goal.returns-in-Ok-clause-written
returns-in-Ok-clause-written g c = λ next.
    checked-silent g.T.Report.form g.T.Report.refusal g.T.Report.remark (document_seen c.args.session.now.document)
    c.args.line.now c.args.number next (line_text c.execute_apart.result) false
    (g.W.Write.contents c.args.out.now)
    (done-piece c.args.line.now c.execute_apart.result c.in-Ok.field-0 c.in-Ok.is c.execute_apart.ensures.piece) refl

pub returns-in-Ok-clause-document : goal.returns-in-Ok-clause-document
returns-in-Ok-clause-document g c =
    next-done (document_seen c.args.session.now.document) c.args.line.now c.execute_apart.result c.in-Ok.field-0
    (document_seen c.execute_apart.new.self.document) c.in-Ok.is c.execute_apart.ensures.document

pub returns-clause-document : goal.returns-clause-document
returns-clause-document g c =
    next-refused (document_seen c.args.session.now.document) c.args.line.now c.execute_apart.result c.in-Err.refused
    (document_seen c.execute_apart.new.self.document) c.add_refusal.result _ c.in-Err.is c.execute_apart.ensures.document c.add_refusal.ensures.ok

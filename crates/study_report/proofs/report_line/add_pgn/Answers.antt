use Rattle.std.proofs.Common.{◌≡◌, ◌+◌, ◌++◌, refl, sym, ap, subst, ◌∙◌}
use Rattle.std.specs.Prelude.{IfOk, codes}
use Rattle.study_reply.specs.Names.{words_of}
use Rattle.study_reply.specs.Words.{reply_line}
use Rattle.study_reply.specs.declared.refusal.Refusal.TheVariants.{NoStudy}
use Rattle.study_command.specs.Documents.{Document}
use Rattle.study_script.specs.State.{State, quiet}
use Rattle.study_script.specs.Session.{SessionHolds}
use Rattle.study_script.specs.SessionHolds.{Holds, document_seen}
use Rattle.study_script.specs.Stores.{HonestOn, StoreSeen}
use Rattle.study_script.specs.Replies.{refused_reply}
use Rattle.study_report.specs.declared.line_kind.LineKind.TheVariants.{Study}
use Rattle.study_report.specs.Reported.{IsAddedAs, IsStudyReported, lacks_study, entry_at, listed_in}
use Rattle.study_report.specs.Written.{none_trusted}
use Rattle.study_report.proofs.LineKinds.{pgn-lacks, pgn-accepted, held-study}
use Rattle.study_report.proofs.LineAdds.{pgn-refused, pgn-reported, refusal-adds, refusal-stops, adds-weaker, stops-weaker, refusal-listed}
use Rattle.study_report.proofs.PartsWritten.{on-err, refusal-part}
use Rattle.study_report.proofs.report_line.add_pgn.Goals as goal

pub report_study-requires-clause-here : goal.report_study-requires-clause-here
report_study-requires-clause-here g c = sym c.lacks_study.ensures ∙ c.if-lacks_study.false

pub returns-then-lacks_study-clause-ok : goal.returns-then-lacks_study-clause-ok
returns-then-lacks_study-clause-ok g c = λ p kind held at.
    let s = p.state in
    let lacks = ap (λ (d : Document). lacks_study d) (sym held.held.document) ∙ sym c.lacks_study.ensures ∙ c.if-lacks_study.true in
    refusal-adds g.T.Report.tells g.T.Report.refusal g.T.Report.remark (IsAddedAs g.T.Report.tells g.T.Report.refusal g.T.Report.remark Study p c.args.line.now)
    (SessionHolds g.S.Pages.PageSource.honest g.S.Pages.PageSource.gives (HonestOn none_trusted g.S.TableStore.honest) g.S.TableStore.files
    g.S.TableStore.headers g.S.TableStore.faults c.args.session.now.document c.args.session.now.tables c.args.session.now.store.now)
    p c.args.line.now (refused_reply s NoStudy) c.args.at.line (reply_line (codes "error ") (words_of NoStudy)) c.refuse_line.result
    (g.W.Write.contents c.args.out.now) (g.W.Write.contents c.refuse_line.new.out) at.0 refl
    (pgn-refused g.T.Report.tells g.T.Report.refusal g.T.Report.remark p c.args.line.now quiet (refused_reply s NoStudy)
    (pgn-lacks s c.args.line.now kind lacks) refl)
    held c.refuse_line.ensures.ok

pub returns-then-lacks_study-clause-err : goal.returns-then-lacks_study-clause-err
returns-then-lacks_study-clause-err g c = λ p kind held at.
    let s = p.state in
    let lacks = ap (λ (d : Document). lacks_study d) (sym held.held.document) ∙ sym c.lacks_study.ensures ∙ c.if-lacks_study.true in
    refusal-stops g.T.Report.tells g.T.Report.refusal g.T.Report.remark
    (IsAddedAs g.T.Report.tells g.T.Report.refusal g.T.Report.remark Study p c.args.line.now)
    p c.args.line.now (refused_reply s NoStudy) c.args.at.line (reply_line (codes "error ") (words_of NoStudy)) c.refuse_line.result
    (g.W.Write.contents c.args.out.now) (g.W.Write.contents c.refuse_line.new.out) at.0 refl
    (pgn-refused g.T.Report.tells g.T.Report.refusal g.T.Report.remark p c.args.line.now quiet (refused_reply s NoStudy)
    (pgn-lacks s c.args.line.now kind lacks) refl)
    c.refuse_line.ensures.err

pub returns-clause-ok : goal.returns-clause-ok
returns-clause-ok g c = λ p kind held at.
    let here = sym c.lacks_study.ensures ∙ c.if-lacks_study.false in
    let found = held-study c.args.session.now.document p.state.document held.held.document here in
    let r = pgn-accepted p.state c.args.line.now c.args.session.now.document kind held.held.document held.held.marks here in
    adds-weaker (IsStudyReported g.T.Report.tells g.T.Report.refusal g.T.Report.remark p p.state c.args.line.now)
    (IsAddedAs g.T.Report.tells g.T.Report.refusal g.T.Report.remark Study p c.args.line.now)
    (λ t. (t ≡ p.state) × Holds g.S.Pages.PageSource.honest g.S.Pages.PageSource.gives
    c.args.session.now.document c.report_study.new.tables t)
    (SessionHolds g.S.Pages.PageSource.honest g.S.Pages.PageSource.gives (HonestOn none_trusted g.S.TableStore.honest) g.S.TableStore.files
    g.S.TableStore.headers g.S.TableStore.faults c.args.session.now.document c.report_study.new.tables c.args.session.now.store.now)
    c.report_study.result (g.W.Write.contents c.args.out.now) (g.W.Write.contents c.report_study.new.out)
    (λ a h. pgn-reported g.T.Report.tells g.T.Report.refusal g.T.Report.remark p c.args.line.now quiet r.0 a r.1 r.2
    (subst (λ (x : State). IsStudyReported g.T.Report.tells g.T.Report.refusal g.T.Report.remark p x c.args.line.now a) (sym r.3) h))
    (λ t (e, h). record {
      held = h;
      seen = subst (λ (x : State). StoreSeen (HonestOn none_trusted g.S.TableStore.honest) g.S.TableStore.files g.S.TableStore.headers
          g.S.TableStore.faults c.args.session.now.store.now x) (sym e) held.seen;
    })
    (c.report_study.ensures.ok p p.state found.0 held.held found.1 at)

pub returns-clause-err : goal.returns-clause-err
returns-clause-err g c = λ p kind held at.
    let here = sym c.lacks_study.ensures ∙ c.if-lacks_study.false in
    let found = held-study c.args.session.now.document p.state.document held.held.document here in
    let r = pgn-accepted p.state c.args.line.now c.args.session.now.document kind held.held.document held.held.marks here in
    stops-weaker (IsStudyReported g.T.Report.tells g.T.Report.refusal g.T.Report.remark p p.state c.args.line.now)
    (IsAddedAs g.T.Report.tells g.T.Report.refusal g.T.Report.remark Study p c.args.line.now)
    c.report_study.result (g.W.Write.contents c.args.out.now) (g.W.Write.contents c.report_study.new.out)
    (λ a h. pgn-reported g.T.Report.tells g.T.Report.refusal g.T.Report.remark p c.args.line.now quiet r.0 a r.1 r.2
    (subst (λ (x : State). IsStudyReported g.T.Report.tells g.T.Report.refusal g.T.Report.remark p x c.args.line.now a) (sym r.3) h))
    (c.report_study.ensures.err p p.state found.0 held.held found.1 at)

pub returns-then-lacks_study-clause-listed : goal.returns-then-lacks_study-clause-listed
returns-then-lacks_study-clause-listed g c = λ p reported kind held kept.
    refusal-listed (g.T.Report.lists c.refuse_line.new.report) c.refuse_line.result reported c.args.line.now
    (document_seen c.args.session.now.document)
    (entry_at c.args.at) _ (g.W.Write.contents _) (g.W.Write.contents c.refuse_line.new.out) c.refuse_line.ensures.ok
    (c.refuse_line.ensures.listed reported kept)

pub returns-clause-listed : goal.returns-clause-listed
returns-clause-listed g c = λ p reported kind held kept.
    subst (λ (b : Document). IfOk c.report_study.result
    (λ t. g.T.Report.lists c.report_study.new.report (reported ++ listed_in c.args.line.now t b (entry_at c.args.at))))
    (sym held.held.document) (c.report_study.ensures.listed p.state reported held.held kept)

pub returns-then-lacks_study-clause-written : goal.returns-then-lacks_study-clause-written
returns-then-lacks_study-clause-written g c =
    refusal-part g.T.Report.form g.T.Report.refusal g.T.Report.remark (document_seen c.args.session.now.document)
    c.args.line.now c.args.at.line (entry_at c.args.at) (words_of NoStudy)
    c.refuse_line.result
    (g.W.Write.contents c.args.out.now) (g.W.Write.contents c.refuse_line.new.out) c.refuse_line.ensures.ok

pub returns-then-lacks_study-clause-unlisted : goal.returns-then-lacks_study-clause-unlisted
returns-then-lacks_study-clause-unlisted g c = λ reported kept. on-err c.refuse_line.result _ (c.refuse_line.ensures.listed reported kept)

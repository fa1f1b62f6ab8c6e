use Rattle.std.proofs.Common.{◌≡◌, ◌+◌, refl, sym, subst, ◌∙◌}
use Rattle.std.specs.Prelude.{codes}
use Rattle.std.proofs.KnownBytes.{Appends-nil}
use Rattle.study_reply.specs.Names.{words_of}
use Rattle.study_reply.specs.Words.{reply_line}
use Rattle.study_reply.specs.declared.refusal.Refusal.TheVariants.{NotAClass}
use Rattle.study_script.specs.Replies.{refused_reply}
use Rattle.study_report.specs.declared.line_kind.LineKind.{LineKind}
use Rattle.study_report.specs.declared.line_kind.LineKind.TheVariants.{Remark, PassedOver, NoClass, Study, Checked}
use Rattle.study_script.specs.SessionHolds.{document_seen}
use Rattle.study_script.specs.Session.{SessionHolds}
use Rattle.study_script.specs.Stores.{HonestOn}
use Rattle.study_report.specs.Written.{none_trusted}
use Rattle.study_report.specs.Reported.{line_kind, entry_at, IsAdded, IsAddedAs, nothing_added, refusal_added, remark_added}
use Rattle.study_report.specs.declared.line_outcome.LineOutcome.TheVariants.{Nothing}
use Rattle.study_report.specs.Parts.{IsNextAs}
use Rattle.study_report.proofs.LineKinds.{trusted-checked}
use Rattle.study_report.proofs.LineAdds.{remark-adds, remark-stops, remark-listed, refusal-adds, refusal-stops}
use Rattle.study_report.proofs.LineAdds.{adds-weaker, stops-weaker, none-listed, nothing-listed, refusal-listed}
use Rattle.study_report.proofs.PartsWritten.{on-err, remark-part, passed-part, no-class-part, part-of-kind, next-same, next-of-kind}
use Rattle.study_report.proofs.report_line.add_line.Goals as goal

pub returns-in-Remark-clause-ok : goal.returns-in-Remark-clause-ok
returns-in-Remark-clause-ok g c = λ p held at.
    let kind : Remark ≡ line_kind c.args.line.now = sym c.in-Remark.is ∙ c.kind_of.ensures in
    remark-adds g.T.Report.tells g.T.Report.refusal g.T.Report.remark
    (IsAdded g.T.Report.tells g.T.Report.refusal g.T.Report.remark p c.args.line.now)
    (SessionHolds g.S.Pages.PageSource.honest g.S.Pages.PageSource.gives (HonestOn none_trusted g.S.TableStore.honest) g.S.TableStore.files
    g.S.TableStore.headers g.S.TableStore.faults c.args.session.now.document c.args.session.now.tables c.args.session.now.store.now)
    p c.args.line.now c.args.at.entries c.add_remark.result (g.W.Write.contents c.args.out.now) (g.W.Write.contents c.add_remark.new.out) at.1
    (subst (λ (k : LineKind). IsAddedAs g.T.Report.tells g.T.Report.refusal g.T.Report.remark k p c.args.line.now
    (remark_added g.T.Report.tells g.T.Report.refusal g.T.Report.remark p c.args.line.now)) kind refl) held c.add_remark.ensures.ok

pub returns-in-Remark-clause-err : goal.returns-in-Remark-clause-err
returns-in-Remark-clause-err g c = λ p held at.
    let kind : Remark ≡ line_kind c.args.line.now = sym c.in-Remark.is ∙ c.kind_of.ensures in
    remark-stops g.T.Report.tells g.T.Report.refusal g.T.Report.remark
    (IsAdded g.T.Report.tells g.T.Report.refusal g.T.Report.remark p c.args.line.now)
    p c.args.line.now c.args.at.entries c.add_remark.result (g.W.Write.contents c.args.out.now) (g.W.Write.contents c.add_remark.new.out) at.1
    (subst (λ (k : LineKind). IsAddedAs g.T.Report.tells g.T.Report.refusal g.T.Report.remark k p c.args.line.now
    (remark_added g.T.Report.tells g.T.Report.refusal g.T.Report.remark p c.args.line.now)) kind refl) c.add_remark.ensures.err

pub returns-in-Remark-clause-listed : goal.returns-in-Remark-clause-listed
returns-in-Remark-clause-listed g c = λ p reported held kept.
    remark-listed (g.T.Report.lists c.add_remark.new.report) c.add_remark.result reported c.args.line.now (document_seen c.args.session.now.document)
    (entry_at c.args.at) _ (g.W.Write.contents _) (g.W.Write.contents c.add_remark.new.out) c.add_remark.ensures.ok
    (c.add_remark.ensures.listed reported kept)

pub returns-in-Remark-clause-written : goal.returns-in-Remark-clause-written
returns-in-Remark-clause-written g c =
    remark-part g.T.Report.form g.T.Report.refusal g.T.Report.remark (document_seen c.args.session.now.document)
    (line_kind c.args.line.now) c.args.line.now c.args.at.line (entry_at c.args.at)
    c.add_remark.result (g.W.Write.contents c.args.out.now) (g.W.Write.contents c.add_remark.new.out) (sym c.in-Remark.is ∙ c.kind_of.ensures)
    c.add_remark.ensures.ok

pub returns-in-PassedOver-clause-ok : goal.returns-in-PassedOver-clause-ok
returns-in-PassedOver-clause-ok g c = λ p held at.
    let kind : PassedOver ≡ line_kind c.args.line.now = sym c.in-PassedOver.is ∙ c.kind_of.ensures in
    let a = nothing_added p c.args.line.now p.state in (
      a,
      subst (λ (k : LineKind). IsAddedAs g.T.Report.tells g.T.Report.refusal g.T.Report.remark k p c.args.line.now a) kind refl,
      Appends-nil (g.W.Write.contents c.args.out.now),
      held,
      refl,
    )

pub returns-in-NoClass-clause-ok : goal.returns-in-NoClass-clause-ok
returns-in-NoClass-clause-ok g c = λ p held at.
    let kind : NoClass ≡ line_kind c.args.line.now = sym c.in-NoClass.is ∙ c.kind_of.ensures in
    let reply = refused_reply p.state NotAClass in
    refusal-adds g.T.Report.tells g.T.Report.refusal g.T.Report.remark (IsAdded g.T.Report.tells g.T.Report.refusal g.T.Report.remark p c.args.line.now)
    (SessionHolds g.S.Pages.PageSource.honest g.S.Pages.PageSource.gives (HonestOn none_trusted g.S.TableStore.honest) g.S.TableStore.files
    g.S.TableStore.headers g.S.TableStore.faults c.args.session.now.document c.args.session.now.tables c.args.session.now.store.now)
    p c.args.line.now reply c.args.at.line (reply_line (codes "error ") (words_of NotAClass))
    c.refuse_line.result (g.W.Write.contents c.args.out.now) (g.W.Write.contents c.refuse_line.new.out) at.0 refl
    (subst (λ (k : LineKind). IsAddedAs g.T.Report.tells g.T.Report.refusal g.T.Report.remark k p c.args.line.now
    (refusal_added g.T.Report.tells g.T.Report.refusal g.T.Report.remark p c.args.line.now reply)) kind refl) held c.refuse_line.ensures.ok

pub returns-in-NoClass-clause-err : goal.returns-in-NoClass-clause-err
returns-in-NoClass-clause-err g c = λ p held at.
    let kind : NoClass ≡ line_kind c.args.line.now = sym c.in-NoClass.is ∙ c.kind_of.ensures in
    let reply = refused_reply p.state NotAClass in
    refusal-stops g.T.Report.tells g.T.Report.refusal g.T.Report.remark (IsAdded g.T.Report.tells g.T.Report.refusal g.T.Report.remark p c.args.line.now)
    p c.args.line.now reply c.args.at.line (reply_line (codes "error ") (words_of NotAClass))
    c.refuse_line.result (g.W.Write.contents c.args.out.now) (g.W.Write.contents c.refuse_line.new.out) at.0 refl
    (subst (λ (k : LineKind). IsAddedAs g.T.Report.tells g.T.Report.refusal g.T.Report.remark k p c.args.line.now
    (refusal_added g.T.Report.tells g.T.Report.refusal g.T.Report.remark p c.args.line.now reply)) kind refl) c.refuse_line.ensures.err

pub returns-in-Study-clause-ok : goal.returns-in-Study-clause-ok
returns-in-Study-clause-ok g c = λ p held at.
    let kind : Study ≡ line_kind c.args.line.now = sym c.in-Study.is ∙ c.kind_of.ensures in
    adds-weaker (IsAddedAs g.T.Report.tells g.T.Report.refusal g.T.Report.remark Study p c.args.line.now) (IsAdded g.T.Report.tells
    g.T.Report.refusal g.T.Report.remark p c.args.line.now)
    (SessionHolds g.S.Pages.PageSource.honest g.S.Pages.PageSource.gives (HonestOn none_trusted g.S.TableStore.honest) g.S.TableStore.files
    g.S.TableStore.headers g.S.TableStore.faults c.add_pgn.new.session.document c.add_pgn.new.session.tables c.add_pgn.new.session.store.now)
    (SessionHolds g.S.Pages.PageSource.honest g.S.Pages.PageSource.gives (HonestOn none_trusted g.S.TableStore.honest) g.S.TableStore.files
    g.S.TableStore.headers g.S.TableStore.faults c.add_pgn.new.session.document c.add_pgn.new.session.tables c.add_pgn.new.session.store.now)
    c.add_pgn.result (g.W.Write.contents c.args.out.now) (g.W.Write.contents c.add_pgn.new.out)
    (λ a. subst (λ (k : LineKind). IsAddedAs g.T.Report.tells g.T.Report.refusal g.T.Report.remark k p c.args.line.now a) kind) (λ s h. h)
    (c.add_pgn.ensures.ok p (sym kind) held at)

pub returns-in-Study-clause-err : goal.returns-in-Study-clause-err
returns-in-Study-clause-err g c = λ p held at.
    let kind : Study ≡ line_kind c.args.line.now = sym c.in-Study.is ∙ c.kind_of.ensures in
    stops-weaker (IsAddedAs g.T.Report.tells g.T.Report.refusal g.T.Report.remark Study p c.args.line.now) (IsAdded g.T.Report.tells
    g.T.Report.refusal g.T.Report.remark p c.args.line.now)
    c.add_pgn.result (g.W.Write.contents c.args.out.now) (g.W.Write.contents c.add_pgn.new.out)
    (λ a. subst (λ (k : LineKind). IsAddedAs g.T.Report.tells g.T.Report.refusal g.T.Report.remark k p c.args.line.now a) kind)
    (c.add_pgn.ensures.err p (sym kind) held at)

pub returns-in-Checked-clause-ok : goal.returns-in-Checked-clause-ok
returns-in-Checked-clause-ok g c = λ p held at.
    let kind : Checked ≡ line_kind c.args.line.now = sym c.in-Checked.is ∙ c.kind_of.ensures in
    adds-weaker (IsAddedAs g.T.Report.tells g.T.Report.refusal g.T.Report.remark Checked p c.args.line.now) (IsAdded g.T.Report.tells
    g.T.Report.refusal g.T.Report.remark p c.args.line.now)
    (SessionHolds g.S.Pages.PageSource.honest g.S.Pages.PageSource.gives (HonestOn none_trusted g.S.TableStore.honest) g.S.TableStore.files
    g.S.TableStore.headers g.S.TableStore.faults c.answer_silently.new.session.document c.answer_silently.new.session.tables
    c.answer_silently.new.session.store.now)
    (SessionHolds g.S.Pages.PageSource.honest g.S.Pages.PageSource.gives (HonestOn none_trusted g.S.TableStore.honest) g.S.TableStore.files
    g.S.TableStore.headers g.S.TableStore.faults c.answer_silently.new.session.document c.answer_silently.new.session.tables
    c.answer_silently.new.session.store.now)
    c.answer_silently.result (g.W.Write.contents c.args.out.now) (g.W.Write.contents c.answer_silently.new.out)
    (λ a. subst (λ (k : LineKind). IsAddedAs g.T.Report.tells g.T.Report.refusal g.T.Report.remark k p c.args.line.now a) kind) (λ s h. h)
    (c.answer_silently.ensures.ok p (trusted-checked c.args.line.now (sym kind)) held at.0)

pub returns-in-Checked-clause-err : goal.returns-in-Checked-clause-err
returns-in-Checked-clause-err g c = λ p held at.
    let kind : Checked ≡ line_kind c.args.line.now = sym c.in-Checked.is ∙ c.kind_of.ensures in
    stops-weaker (IsAddedAs g.T.Report.tells g.T.Report.refusal g.T.Report.remark Checked p c.args.line.now) (IsAdded g.T.Report.tells
    g.T.Report.refusal g.T.Report.remark p c.args.line.now)
    c.answer_silently.result (g.W.Write.contents c.args.out.now) (g.W.Write.contents c.answer_silently.new.out)
    (λ a. subst (λ (k : LineKind). IsAddedAs g.T.Report.tells g.T.Report.refusal g.T.Report.remark k p c.args.line.now a) kind)
    (c.answer_silently.ensures.err p (trusted-checked c.args.line.now (sym kind)) held at.0)

pub returns-in-PassedOver-clause-listed : goal.returns-in-PassedOver-clause-listed
returns-in-PassedOver-clause-listed g c = λ p reported held kept. nothing-listed (g.T.Report.lists c.args.report.now) reported kept

pub returns-in-NoClass-clause-listed : goal.returns-in-NoClass-clause-listed
returns-in-NoClass-clause-listed g c = λ p reported held kept.
    refusal-listed (g.T.Report.lists c.refuse_line.new.report) c.refuse_line.result reported c.args.line.now (document_seen c.args.session.now.document)
    (entry_at c.args.at) _ (g.W.Write.contents _) (g.W.Write.contents c.refuse_line.new.out) c.refuse_line.ensures.ok
    (c.refuse_line.ensures.listed reported kept)

pub returns-in-Study-clause-listed : goal.returns-in-Study-clause-listed
returns-in-Study-clause-listed g c = λ p reported held kept.
    let kind : Study ≡ line_kind c.args.line.now = sym c.in-Study.is ∙ c.kind_of.ensures in
    c.add_pgn.ensures.listed p reported (sym kind) held kept

pub returns-in-Checked-clause-listed : goal.returns-in-Checked-clause-listed
returns-in-Checked-clause-listed g c = λ p reported held kept.
    none-listed (g.T.Report.lists c.answer_silently.new.report) c.answer_silently.result reported c.args.line.now
    (document_seen c.answer_silently.new.session.document)
    (entry_at c.args.at)
    c.answer_silently.ensures.none_reported (c.answer_silently.ensures.listed reported kept)

pub returns-in-PassedOver-clause-written : goal.returns-in-PassedOver-clause-written
returns-in-PassedOver-clause-written g c =
    passed-part g.T.Report.form g.T.Report.refusal g.T.Report.remark (document_seen c.args.session.now.document)
    (line_kind c.args.line.now) c.args.line.now c.args.at.line (entry_at c.args.at)
    (g.W.Write.contents c.args.out.now) (sym c.in-PassedOver.is ∙ c.kind_of.ensures)

pub returns-in-NoClass-clause-written : goal.returns-in-NoClass-clause-written
returns-in-NoClass-clause-written g c =
    no-class-part g.T.Report.form g.T.Report.refusal g.T.Report.remark (document_seen c.args.session.now.document)
    (line_kind c.args.line.now) c.args.line.now c.args.at.line (entry_at c.args.at)
    c.refuse_line.result (g.W.Write.contents c.args.out.now) (g.W.Write.contents c.refuse_line.new.out) (sym c.in-NoClass.is ∙ c.kind_of.ensures)
    c.refuse_line.ensures.ok

pub returns-in-Study-clause-written : goal.returns-in-Study-clause-written
returns-in-Study-clause-written g c =
    part-of-kind g.T.Report.form g.T.Report.refusal g.T.Report.remark (document_seen c.args.session.now.document)
    Study (line_kind c.args.line.now) c.args.line.now c.args.at.line (entry_at c.args.at)
    c.add_pgn.result (g.W.Write.contents c.args.out.now) (g.W.Write.contents c.add_pgn.new.out) (sym c.in-Study.is ∙ c.kind_of.ensures)
    c.add_pgn.ensures.written

pub returns-in-Checked-clause-written : goal.returns-in-Checked-clause-written
returns-in-Checked-clause-written g c =
    part-of-kind g.T.Report.form g.T.Report.refusal g.T.Report.remark (document_seen c.args.session.now.document)
    Checked (line_kind c.args.line.now) c.args.line.now c.args.at.line (entry_at c.args.at)
    c.answer_silently.result (g.W.Write.contents c.args.out.now) (g.W.Write.contents c.answer_silently.new.out) (sym c.in-Checked.is ∙ c.kind_of.ensures)
    (c.answer_silently.ensures.written (entry_at c.args.at))

pub returns-in-NoClass-clause-unlisted : goal.returns-in-NoClass-clause-unlisted
returns-in-NoClass-clause-unlisted g c = λ reported kept. on-err c.refuse_line.result _ (c.refuse_line.ensures.listed reported kept)

pub returns-in-Checked-clause-unlisted : goal.returns-in-Checked-clause-unlisted
returns-in-Checked-clause-unlisted g c = λ reported kept. on-err c.answer_silently.result _ (c.answer_silently.ensures.listed reported kept)

-- ---- the document

pub returns-in-Remark-clause-document : goal.returns-in-Remark-clause-document
returns-in-Remark-clause-document g c =
    next-same (document_seen c.args.session.now.document) c.args.line.now Remark c.add_remark.result (λ t. refl) (sym c.in-Remark.is ∙ c.kind_of.ensures)

pub returns-in-PassedOver-clause-document : goal.returns-in-PassedOver-clause-document
returns-in-PassedOver-clause-document g c =
    subst (λ (k : LineKind). IsNextAs k (document_seen c.args.session.now.document) c.args.line.now Nothing (document_seen c.args.session.now.document)) (sym c.in-PassedOver.is ∙ c.kind_of.ensures) refl

pub returns-in-NoClass-clause-document : goal.returns-in-NoClass-clause-document
returns-in-NoClass-clause-document g c =
    next-same (document_seen c.args.session.now.document) c.args.line.now NoClass c.refuse_line.result (λ t. refl) (sym c.in-NoClass.is ∙ c.kind_of.ensures)

pub returns-in-Study-clause-document : goal.returns-in-Study-clause-document
returns-in-Study-clause-document g c =
    rw c.add_pgn.ensures.document (next-same (document_seen c.args.session.now.document) c.args.line.now Study c.add_pgn.result (λ t. refl) (sym c.in-Study.is ∙ c.kind_of.ensures))

pub returns-in-Checked-clause-document : goal.returns-in-Checked-clause-document
returns-in-Checked-clause-document g c =
    next-of-kind (document_seen c.args.session.now.document) c.args.line.now Checked c.answer_silently.result
    (document_seen c.answer_silently.new.session.document) (sym c.in-Checked.is ∙ c.kind_of.ensures) c.answer_silently.ensures.document

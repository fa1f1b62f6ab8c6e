use Rattle.std.proofs.Common.{◌≡◌, true, List, ◌++◌, OnOk, refl, sym, ap, subst, ◌∙◌}
use Rattle.std.proofs.lemmas.List.{append-nil}
use Rattle.study_marks.specs.Edits.{PlainStudy}
use Rattle.study_marks.specs.BenchState.{marked_study}
use Rattle.study_marks.specs.Study.{plain_study}
use Rattle.study_script.specs.SessionHolds.{document_seen, IsMarked, tables_held, are_paged, tables_may_fail}
use Rattle.study_command.specs.Documents.{Document, empty, start, study}
use Rattle.study_script.specs.State.{is_among}
use Rattle.study_report.specs.Reported.{IsValueFaultBy, Entry, studies_on}
use Rattle.study_report.specs.Written.{IsSection, IsSectionPart}
use Rattle.study_report.proofs.Reviewed.{no_value-same}
use Rattle.study_report.proofs.section.add_section.Goals as goal

pub returns-in-Study-clause-reported : goal.returns-in-Study-clause-reported
returns-in-Study-clause-reported g c s h =
    let seen : study (plain_study (marked_study c.in-Study.bench)) ≡ s.document = sym (ap document_seen c.in-Study.is) ∙ h.document in
    let right = subst (λ b. IsMarked b) c.in-Study.is h.marks in
    subst (λ (b : Document). OnOk c.add_study.result (IsSection g.T.Report.tells b c.args.info (g.W.Write.contents c.args.out.now)
    (g.W.Write.contents c.add_study.new.out))) seen (c.add_study.ensures.reported h.values right)

pub returns-in-Study-clause-device : goal.returns-in-Study-clause-device
returns-in-Study-clause-device g c s h e =
    let seen : study (plain_study (marked_study c.in-Study.bench)) ≡ s.document = sym (ap document_seen c.in-Study.is) ∙ h.document in
    let right = subst (λ b. IsMarked b) c.in-Study.is h.marks in
    subst (λ (b : Document). IsSectionPart g.T.Report.tells b c.args.info (g.W.Write.contents c.args.out.now)
    (g.W.Write.contents c.add_study.new.out)) seen (c.add_study.ensures.device h.values right e)

pub returns-in-Study-clause-listed : goal.returns-in-Study-clause-listed
returns-in-Study-clause-listed g c s reported h kept =
    let seen : study (plain_study (marked_study c.in-Study.bench)) ≡ s.document = sym (ap document_seen c.in-Study.is) ∙ h.document in
    let right = subst (λ b. IsMarked b) c.in-Study.is h.marks in
    subst (λ (b : Document). OnOk c.add_study.result (g.T.Report.lists c.add_study.new.report (reported ++ studies_on b c.args.info))) seen
    (c.add_study.ensures.listed reported h.values right kept)

pub returns-in-Study-clause-why : goal.returns-in-Study-clause-why
returns-in-Study-clause-why g c s plain fault h b e =
    let seen : study (plain_study (marked_study c.in-Study.bench)) ≡ study plain = sym (ap document_seen c.in-Study.is) ∙ h.document ∙ b in
    let same : plain_study (marked_study c.in-Study.bench) ≡ plain = cc in
    no_value-same (tables_held c.args.tables.now) (is_among s.classes) (are_paged c.args.tables.now) s.paged
    (tables_may_fail g.P.PageSource.gives c.args.tables.now) (λ d f. s.shelf.faults d f ≡ true) fault h.classes h.paged h.faults plain.start.position
    (subst (λ (x : PlainStudy). IsValueFaultBy (tables_held c.args.tables.now) (are_paged c.args.tables.now)
    (tables_may_fail g.P.PageSource.gives c.args.tables.now) x.start.position fault) same
    (c.add_study.ensures.why fault h.values e))

pub returns-in-Study-clause-holds : goal.returns-in-Study-clause-holds
returns-in-Study-clause-holds g c s h = record {
  document = h.document;
  marks = h.marks;
  values = c.add_study.ensures.honest h.values;
  classes = λ d. c.add_study.ensures.tables d ∙ h.classes d;
  paged = c.add_study.ensures.mode ∙ h.paged;
  faults = λ d f m. h.faults d f (c.add_study.ensures.fails_as_before d f m);
}

pub returns-in-Empty-clause-reported : goal.returns-in-Empty-clause-reported
returns-in-Empty-clause-reported g c s h =
    let seen : empty ≡ s.document = sym (ap document_seen c.in-Empty.is) ∙ h.document in
    let out = g.W.Write.contents c.args.out.now in
    subst (λ (b : Document). IsSection g.T.Report.tells b c.args.info out out) seen refl

pub returns-in-Start-clause-reported : goal.returns-in-Start-clause-reported
returns-in-Start-clause-reported g c s h =
    let seen : start c.in-Start.field-0 ≡ s.document = sym (ap document_seen c.in-Start.is) ∙ h.document in
    let out = g.W.Write.contents c.args.out.now in
    subst (λ (b : Document). IsSection g.T.Report.tells b c.args.info out out) seen refl

pub returns-in-Empty-clause-listed : goal.returns-in-Empty-clause-listed
returns-in-Empty-clause-listed g c s reported h kept =
    let seen : empty ≡ s.document = sym (ap document_seen c.in-Empty.is) ∙ h.document in
    subst (λ (b : Document). g.T.Report.lists c.args.report.now (reported ++ studies_on b c.args.info)) seen
    (subst (λ (l : List Entry). g.T.Report.lists c.args.report.now l) (sym (append-nil reported)) kept)

pub returns-in-Start-clause-listed : goal.returns-in-Start-clause-listed
returns-in-Start-clause-listed g c s reported h kept =
    let seen : start c.in-Start.field-0 ≡ s.document = sym (ap document_seen c.in-Start.is) ∙ h.document in
    subst (λ (b : Document). g.T.Report.lists c.args.report.now (reported ++ studies_on b c.args.info)) seen
    (subst (λ (l : List Entry). g.T.Report.lists c.args.report.now l) (sym (append-nil reported)) kept)

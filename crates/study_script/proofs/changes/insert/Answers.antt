use Rattle.std.proofs.Common.{refl, subst}
use Rattle.study_marks.specs.Study.{plain_study}
use Rattle.study_marks.specs.BenchState.{marked_study}
use Rattle.study_command.specs.Paths.{steps_of}
use Rattle.study_script.specs.declared.document.Document.TheVariants as held
use Rattle.study_reply.specs.declared.refusal.Refusal.TheVariants.{NoStudy}
use Rattle.study_command.specs.Documents.{Document, study}
use Rattle.study_script.specs.State.{Environment, quiet}
use Rattle.study_script.specs.SessionHolds.{Holds}
use Rattle.study_script.specs.Replies.{refused_reply, IsInsertReply}
use Rattle.study_script.proofs.Executions.{executed_weaker}
use Rattle.study_script.proofs.Documents.{holds_of, seen_of}
use Rattle.std.proofs.Common.{ap, sym}
use Rattle.study_command.specs.Parser.{insert}
use Rattle.study_script.specs.SessionHolds.{bench_seen, document_seen}
use Rattle.study_script.specs.Executed.{Leaves}
use Rattle.study_script.proofs.changes.insert.Goals as goal

pub returns-in-Study-clause-done : goal.returns-in-Study-clause-done
returns-in-Study-clause-done g c = λ s h. executed_weaker
    {I = λ (o : Environment). IsInsertReply s o (study (plain_study (marked_study c.in-Study.bench))) (steps_of c.args.path.now) c.args.san.now}
    {J = λ (o : Environment). IsInsertReply s o s.document (steps_of c.args.path.now) c.args.san.now}
    {H = Holds g.P.PageSource.honest g.P.PageSource.gives (held.Study c.insert_in_study.new.bench) c.insert_in_study.new.tables}
    {K = Holds g.P.PageSource.honest g.P.PageSource.gives (held.Study c.insert_in_study.new.bench) c.insert_in_study.new.tables} c.insert_in_study.result
    (λ o r i. subst (λ (x : Document). IsInsertReply s o x (steps_of c.args.path.now) c.args.san.now r)
    (seen_of g.P.PageSource.honest g.P.PageSource.gives c.args.document.now (held.Study c.in-Study.bench) c.args.tables.now s c.in-Study.is h) i) (λ t m. m)
    (c.insert_in_study.ensures.done s (holds_of g.P.PageSource.honest g.P.PageSource.gives c.args.document.now (held.Study c.in-Study.bench) c.args.tables.now s
    c.in-Study.is h))

pub returns-in-Empty-clause-done : goal.returns-in-Empty-clause-done
returns-in-Empty-clause-done g c = λ s h. (
  quiet,
  s,
  subst (λ (x : Document). IsInsertReply s quiet x (steps_of c.args.path.now) c.args.san.now (refused_reply s NoStudy))
      (seen_of g.P.PageSource.honest g.P.PageSource.gives c.args.document.now held.Empty c.args.tables.now s c.in-Empty.is h) refl,
  h,
)

pub returns-in-Start-clause-done : goal.returns-in-Start-clause-done
returns-in-Start-clause-done g c = λ s h. (
  quiet,
  s,
  subst (λ (x : Document). IsInsertReply s quiet x (steps_of c.args.path.now) c.args.san.now (refused_reply s NoStudy))
      (seen_of g.P.PageSource.honest g.P.PageSource.gives c.args.document.now (held.Start c.in-Start.field-0) c.args.tables.now s c.in-Start.is h) refl,
  h,
)

pub returns-in-Study-clause-document : goal.returns-in-Study-clause-document
returns-in-Study-clause-document g c =
    subst (λ (d : Document). Leaves c.insert_in_study.result (insert (steps_of c.args.path.now) c.args.san.now) d (bench_seen c.insert_in_study.new.bench))
    (ap document_seen (sym c.in-Study.is)) c.insert_in_study.ensures.document

use Rattle.std.proofs.Common.{refl, subst}
use Rattle.study_notation.specs.Fen.{start_of}
use Rattle.study_marks.specs.Study.{plain_study}
use Rattle.study_marks.specs.BenchState.{marked_study}
use Rattle.study_command.specs.declared.command.FenCommand.TheVariants.{Shift}
use Rattle.study_script.specs.declared.document.Document.TheVariants as held
use Rattle.study_reply.specs.declared.refusal.Refusal.TheVariants.{NoStudy}
use Rattle.study_command.specs.Documents.{Document, study}
use Rattle.study_script.specs.State.{Environment, quiet}
use Rattle.study_script.specs.SessionHolds.{Holds}
use Rattle.study_script.specs.Replies.{refused_reply, IsStartReply}
use Rattle.study_script.proofs.Executions.{executed_weaker}
use Rattle.study_script.proofs.Documents.{holds_of, seen_of}
use Rattle.std.proofs.Common.{ap, sym}
use Rattle.study_command.specs.Parser.{fen_command}
use Rattle.study_script.specs.SessionHolds.{bench_seen, document_seen}
use Rattle.study_script.specs.Executed.{Leaves}
use Rattle.study_script.proofs.position_commands.shift_document.Goals as goal

pub returns-in-Study-clause-done : goal.returns-in-Study-clause-done
returns-in-Study-clause-done g c = λ s h. executed_weaker
    {I = λ (o : Environment). IsStartReply s o Shift (study (plain_study (marked_study c.in-Study.bench))) (start_of c.args.fen.now)}
    {J = λ (o : Environment). IsStartReply s o Shift s.document (start_of c.args.fen.now)}
    {H = Holds g.P.PageSource.honest g.P.PageSource.gives (held.Study c.shift_study.new.bench) c.shift_study.new.tables}
    {K = Holds g.P.PageSource.honest g.P.PageSource.gives (held.Study c.shift_study.new.bench) c.shift_study.new.tables} c.shift_study.result
    (λ o r i. subst (λ (x : Document). IsStartReply s o Shift x (start_of c.args.fen.now) r)
    (seen_of g.P.PageSource.honest g.P.PageSource.gives c.args.document.now (held.Study c.in-Study.bench) c.args.tables.now s c.in-Study.is h) i) (λ t m. m)
    (c.shift_study.ensures.done s (holds_of g.P.PageSource.honest g.P.PageSource.gives c.args.document.now (held.Study c.in-Study.bench) c.args.tables.now s
    c.in-Study.is h))

pub returns-in-Empty-clause-done : goal.returns-in-Empty-clause-done
returns-in-Empty-clause-done g c = λ s h. (
  quiet,
  s,
  subst (λ (x : Document). IsStartReply s quiet Shift x (start_of c.args.fen.now) (refused_reply s NoStudy))
      (seen_of g.P.PageSource.honest g.P.PageSource.gives c.args.document.now held.Empty c.args.tables.now s c.in-Empty.is h) refl,
  h,
)

pub returns-in-Start-clause-done : goal.returns-in-Start-clause-done
returns-in-Start-clause-done g c = λ s h. (
  quiet,
  s,
  subst (λ (x : Document). IsStartReply s quiet Shift x (start_of c.args.fen.now) (refused_reply s NoStudy))
      (seen_of g.P.PageSource.honest g.P.PageSource.gives c.args.document.now (held.Start c.in-Start.field-0) c.args.tables.now s c.in-Start.is h) refl,
  h,
)

pub returns-in-Study-clause-document : goal.returns-in-Study-clause-document
returns-in-Study-clause-document g c =
    subst (λ (d : Document). Leaves c.shift_study.result (fen_command Shift c.args.fen.now) d (bench_seen c.shift_study.new.bench))
    (ap document_seen (sym c.in-Study.is)) c.shift_study.ensures.document

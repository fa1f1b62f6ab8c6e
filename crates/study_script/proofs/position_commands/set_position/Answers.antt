use Rattle.std.proofs.Common.{refl, subst}
use Rattle.std.specs.Prelude.{codes}
use Rattle.study_notation.specs.FenSpelling.{fen_text}
use Rattle.study_marks.specs.Study.{plain_study}
use Rattle.study_marks.specs.BenchState.{marked_study}
use Rattle.study_script.specs.declared.document.Document.TheVariants as held
use Rattle.study_reply.specs.Words.{reply_line}
use Rattle.study_command.specs.Documents.{Document, start, study}
use Rattle.study_script.specs.State.{Environment, quiet}
use Rattle.study_script.specs.SessionHolds.{Holds}
use Rattle.study_script.specs.Replies.{accepted_reply, IsPositionReply}
use Rattle.study_script.proofs.Executions.{executed_weaker}
use Rattle.study_script.proofs.Documents.{holds_of, seen_of, start_held}
use Rattle.std.proofs.Common.{Some, Ok, ap, sym, ◌∙◌}
use Rattle.study_command.specs.Documents.{with_start_of, after_position}
use Rattle.study_script.specs.SessionHolds.{bench_seen, document_seen}
use Rattle.study_script.specs.Executed.{LeavesRuled}
use Rattle.study_script.proofs.position_commands.set_position.Goals as goal

pub returns-in-Study-clause-done : goal.returns-in-Study-clause-done
returns-in-Study-clause-done g c = λ s h. executed_weaker
    {I = λ (o : Environment). IsPositionReply s o (study (plain_study (marked_study c.in-Study.bench))) c.args.start}
    {J = λ (o : Environment). IsPositionReply s o s.document c.args.start}
    {H = Holds g.P.PageSource.honest g.P.PageSource.gives (held.Study c.reposition.new.bench) c.reposition.new.tables}
    {K = Holds g.P.PageSource.honest g.P.PageSource.gives (held.Study c.reposition.new.bench) c.reposition.new.tables} c.reposition.result
    (λ o r i. subst (λ (x : Document). IsPositionReply s o x c.args.start r)
    (seen_of g.P.PageSource.honest g.P.PageSource.gives c.args.document.now (held.Study c.in-Study.bench) c.args.tables.now s c.in-Study.is h) i) (λ t m. m)
    (c.reposition.ensures.done s (holds_of g.P.PageSource.honest g.P.PageSource.gives c.args.document.now (held.Study c.in-Study.bench) c.args.tables.now s
    c.in-Study.is h))

pub returns-in-Empty-clause-done : goal.returns-in-Empty-clause-done
returns-in-Empty-clause-done g c = λ s h. rw c.set_bare_start.ensures.reply (
  quiet,
  record s { document = start c.args.start },
  subst (λ (x : Document). IsPositionReply s quiet x c.args.start
      (accepted_reply (record s { document = start c.args.start }) (reply_line (codes "position ") (fen_text c.args.start))))
      (seen_of g.P.PageSource.honest g.P.PageSource.gives c.args.document.now held.Empty c.args.tables.now s c.in-Empty.is h) refl,
  start_held g.P.PageSource.honest g.P.PageSource.gives c.args.document.now c.set_bare_start.new.document c.args.tables.now s c.args.start
      c.set_bare_start.ensures.held h,
)

pub returns-in-Start-clause-done : goal.returns-in-Start-clause-done
returns-in-Start-clause-done g c = λ s h. rw c.set_bare_start-in-Start.ensures.reply (
  quiet,
  record s { document = start c.args.start },
  subst (λ (x : Document). IsPositionReply s quiet x c.args.start
      (accepted_reply (record s { document = start c.args.start }) (reply_line (codes "position ") (fen_text c.args.start))))
      (seen_of g.P.PageSource.honest g.P.PageSource.gives c.args.document.now (held.Start c.in-Start.field-0) c.args.tables.now s c.in-Start.is h) refl,
  start_held g.P.PageSource.honest g.P.PageSource.gives c.args.document.now c.set_bare_start-in-Start.new.document c.args.tables.now s c.args.start
      c.set_bare_start-in-Start.ensures.held h,
)

pub returns-in-Study-clause-document : goal.returns-in-Study-clause-document
returns-in-Study-clause-document g c =
    subst (λ (d : Document). LeavesRuled c.reposition.result (after_position d (Ok c.args.start)) d (bench_seen c.reposition.new.bench))
    (ap document_seen (sym c.in-Study.is)) c.reposition.ensures.document

pub returns-in-Empty-clause-document : goal.returns-in-Empty-clause-document
returns-in-Empty-clause-document g c =
    ap (λ d. Some (with_start_of (document_seen d) c.args.start)) c.in-Empty.is ∙ ap (λ d. Some (document_seen d)) (sym c.set_bare_start.ensures.held)

pub returns-in-Start-clause-document : goal.returns-in-Start-clause-document
returns-in-Start-clause-document g c =
    ap (λ d. Some (with_start_of (document_seen d) c.args.start)) c.in-Start.is ∙ ap (λ d. Some (document_seen d)) (sym c.set_bare_start-in-Start.ensures.held)

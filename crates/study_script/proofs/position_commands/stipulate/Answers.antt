use Rattle.std.proofs.Common.{refl, ap, ◌∙◌, subst}
use Rattle.study_marks.specs.Study.{plain_study}
use Rattle.study_marks.specs.BenchState.{marked_study}
use Rattle.study_marks.specs.Edits.{with_stipulation}
use Rattle.study_script.specs.declared.document.Document.TheVariants as held
use Rattle.study_reply.specs.declared.refusal.Refusal.TheVariants.{NoPosition}
use Rattle.study_reply.specs.Words.{stipulation_words}
use Rattle.study_command.specs.Documents.{Document, start}
use Rattle.study_script.specs.State.{Environment, quiet}
use Rattle.study_script.specs.SessionHolds.{Holds}
use Rattle.study_script.specs.Replies.{accepted_reply, refused_reply, with_study, IsStipulateReply}
use Rattle.study_script.proofs.Executions.{executed_weaker}
use Rattle.study_script.proofs.Documents.{holds_of, seen_of, study_held}
use Rattle.std.proofs.Common.{◌≡◌, Some, sym}
use Rattle.study_command.specs.Parser.{stipulate}
use Rattle.study_command.specs.Documents.{study, new_study, after_stipulate}
use Rattle.study_script.specs.SessionHolds.{bench_seen, document_seen}
use Rattle.study_script.specs.Executed.{Leaves}
use Rattle.study_script.proofs.DocumentsLeft.{leaves_ruled}
use Rattle.study_script.proofs.position_commands.stipulate.Goals as goal

pub returns-in-Study-clause-done : goal.returns-in-Study-clause-done
returns-in-Study-clause-done g c = λ s h.
    let new = with_stipulation (plain_study (marked_study c.in-Study.bench)) c.args.stipulation.now in
    let holds = holds_of g.P.PageSource.honest g.P.PageSource.gives c.args.document.now (held.Study c.in-Study.bench) c.args.tables.now s c.in-Study.is h in
    rw c.restipulate.ensures.reply (
      quiet,
      with_study s new,
      subst (λ (x : Document). IsStipulateReply s quiet x c.args.stipulation.now (accepted_reply (with_study s new) (stipulation_words c.args.stipulation.now)))
          (seen_of g.P.PageSource.honest g.P.PageSource.gives c.args.document.now (held.Study c.in-Study.bench) c.args.tables.now s c.in-Study.is h) refl,
      study_held g.P.PageSource.honest g.P.PageSource.gives c.in-Study.bench c.restipulate.new.bench c.args.tables.now s new c.restipulate.ensures.edited
          (c.restipulate.ensures.right holds.marks) holds,
    )

pub returns-in-Empty-clause-done : goal.returns-in-Empty-clause-done
returns-in-Empty-clause-done g c = λ s h. (
  quiet,
  s,
  subst (λ (x : Document). IsStipulateReply s quiet x c.args.stipulation.now (refused_reply s NoPosition))
      (seen_of g.P.PageSource.honest g.P.PageSource.gives c.args.document.now held.Empty c.args.tables.now s c.in-Empty.is h) refl,
  h,
)

pub returns-in-Start-clause-done : goal.returns-in-Start-clause-done
returns-in-Start-clause-done g c = λ s h. executed_weaker
    {I = λ (o : Environment). IsStipulateReply s o (start c.copied-start.result) c.args.stipulation.now}
    {J = λ (o : Environment). IsStipulateReply s o s.document c.args.stipulation.now}
    {H = Holds g.P.PageSource.honest g.P.PageSource.gives c.make_study.new.document c.make_study.new.tables}
    {K = Holds g.P.PageSource.honest g.P.PageSource.gives c.make_study.new.document c.make_study.new.tables} c.make_study.result
    (λ o r i. subst (λ (x : Document). IsStipulateReply s o x c.args.stipulation.now r)
    (ap start c.copied-start.ensures ∙ (seen_of g.P.PageSource.honest g.P.PageSource.gives c.args.document.now (held.Start c.in-Start.start) c.args.tables.now
    s c.in-Start.is h)) i) (λ t m. m)
    (c.make_study.ensures.done s (holds_of g.P.PageSource.honest g.P.PageSource.gives c.args.document.now (held.Start c.in-Start.start) c.args.tables.now s
    c.in-Start.is h))

pub returns-in-Study-clause-document : goal.returns-in-Study-clause-document
returns-in-Study-clause-document g c =
    subst (λ (d : Document). after_stipulate d c.args.stipulation.now ≡ Some (bench_seen c.restipulate.new.bench))
    (ap document_seen (sym c.in-Study.is)) (ap (λ s. Some (study s)) (sym c.restipulate.ensures.edited))

pub returns-in-Start-clause-document : goal.returns-in-Start-clause-document
returns-in-Start-clause-document g c =
    let from = c.in-Start.start in
    let new = document_seen c.make_study.new.document in
    let aim = c.args.stipulation.now in
    subst (λ (d : Document). Leaves c.make_study.result (stipulate aim) d new) (ap document_seen (sym c.in-Start.is))
    (leaves_ruled c.make_study.result (stipulate aim) (Some (study (new_study c.copied-start.result aim))) (start from) new
    (λ e. subst (λ (d : Document). after_stipulate d aim ≡ Some new) (ap start c.copied-start.ensures) e)
    c.make_study.ensures.document)

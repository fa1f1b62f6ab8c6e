use Rattle.std.proofs.Common.{refl, subst}
use Rattle.study_marks.specs.Study.{plain_study}
use Rattle.study_marks.specs.BenchState.{marked_study}
use Rattle.study_command.specs.Paths.{steps_of}
use Rattle.study_script.specs.declared.document.Document.TheVariants as held
use Rattle.study_reply.specs.declared.refusal.Refusal.TheVariants.{NoStudy}
use Rattle.study_command.specs.Documents.{Document, study}
use Rattle.study_script.specs.State.{Environment, quiet}
use Rattle.study_script.specs.SessionHolds.{HoldsFrom, HoldsBenchFrom}
use Rattle.study_script.specs.Replies.{refused_reply, IsStudyReplyAt}
use Rattle.study_script.proofs.Executions.{executed_weaker}
use Rattle.study_script.proofs.HeldBehindReplies.{document_kept, document_of, bench_of, empty_seen, start_seen, study_seen}
use Rattle.std.proofs.Common.{ap, sym}
use Rattle.study_command.specs.Parser.{node_command}
use Rattle.study_script.specs.SessionHolds.{bench_seen, document_seen}
use Rattle.study_script.specs.Executed.{Leaves}
use Rattle.study_script.proofs.changes.node_command.Goals as goal

pub returns-in-Study-clause-done : goal.returns-in-Study-clause-done
returns-in-Study-clause-done g c = λ s h. executed_weaker
    {I = λ (o : Environment). IsStudyReplyAt s o c.args.word (study (plain_study (marked_study c.in-Study.bench))) (steps_of c.args.path.now)}
    {J = λ (o : Environment). IsStudyReplyAt s o c.args.word s.document (steps_of c.args.path.now)} {H = HoldsBenchFrom s c.node_command_on.new.bench}
    {K = HoldsFrom {A = g.row.A.Denot} s (held.Study c.node_command_on.new.bench)} c.node_command_on.result
    (λ o r i. subst (λ (x : Document). IsStudyReplyAt s o c.args.word x (steps_of c.args.path.now) r)
    (study_seen c.args.document.now c.in-Study.bench s c.in-Study.is h) i)
    (λ t m. document_of {A = g.row.A.Denot} (held.Study c.node_command_on.new.bench) c.node_command_on.new.bench s t refl m)
    (c.node_command_on.ensures.done s (bench_of c.args.document.now c.in-Study.bench s c.in-Study.is h))

pub returns-in-Empty-clause-done : goal.returns-in-Empty-clause-done
returns-in-Empty-clause-done g c = λ s h. (
  quiet,
  s,
  subst (λ (x : Document). IsStudyReplyAt s quiet c.args.word x (steps_of c.args.path.now) (refused_reply s NoStudy))
      (empty_seen c.args.document.now s c.in-Empty.is h) refl,
  document_kept c.args.document.now s h,
)

pub returns-in-Start-clause-done : goal.returns-in-Start-clause-done
returns-in-Start-clause-done g c = λ s h. (
  quiet,
  s,
  subst (λ (x : Document). IsStudyReplyAt s quiet c.args.word x (steps_of c.args.path.now) (refused_reply s NoStudy))
      (start_seen c.args.document.now c.in-Start.field-0 s c.in-Start.is h) refl,
  document_kept c.args.document.now s h,
)

pub returns-in-Study-clause-document : goal.returns-in-Study-clause-document
returns-in-Study-clause-document g c =
    subst (λ (d : Document). Leaves c.node_command_on.result (node_command c.args.word (steps_of c.args.path.now)) d (bench_seen c.node_command_on.new.bench))
    (ap document_seen (sym c.in-Study.is)) c.node_command_on.ensures.document

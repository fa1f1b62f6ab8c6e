use Rattle.std.proofs.Common.{refl, subst}
use Rattle.study_marks.specs.Study.{plain_study}
use Rattle.study_marks.specs.BenchState.{marked_study}
use Rattle.study_reply.specs.declared.refusal.Refusal.TheVariants.{NoStudy}
use Rattle.study_command.specs.Documents.{Document, study}
use Rattle.study_script.specs.State.{Environment, quiet}
use Rattle.study_script.specs.SessionHolds.{HoldsFrom, HoldsBenchFrom}
use Rattle.study_script.specs.Replies.{Reply, refused_reply, IsPgnReply}
use Rattle.study_script.proofs.Executions.{executed_weaker}
use Rattle.study_script.proofs.HeldBehindReplies.{document_kept, document_of, bench_of, empty_seen, start_seen, study_seen}
use Rattle.study_script.proofs.queries.pgn.Goals as goal

pub returns-in-Empty : goal.returns-in-Empty
returns-in-Empty g c = λ s h. (
  quiet,
  s,
  subst (λ (x : Document). IsPgnReply s quiet x (refused_reply s NoStudy)) (empty_seen c.args.document.now s c.in-Empty.is h) refl,
  document_kept c.args.document.now s h,
)

pub returns-in-Start : goal.returns-in-Start
returns-in-Start g c = λ s h. (
  quiet,
  s,
  subst (λ (x : Document). IsPgnReply s quiet x (refused_reply s NoStudy)) (start_seen c.args.document.now c.in-Start.field-0 s c.in-Start.is h) refl,
  document_kept c.args.document.now s h,
)

pub returns-in-Study : goal.returns-in-Study
returns-in-Study g c = λ s h. executed_weaker
    {I = λ (o : Environment) (r : Reply). IsPgnReply s o (study (plain_study (marked_study c.in-Study.bench))) r}
    {J = λ (o : Environment) (r : Reply). IsPgnReply s o s.document r} {H = HoldsBenchFrom s c.in-Study.bench}
    {K = HoldsFrom {A = g.row.A.Denot} s c.args.document.now} c.document_pgn.result
    (λ o r i. subst (λ (x : Document). IsPgnReply s o x r) (study_seen c.args.document.now c.in-Study.bench s c.in-Study.is h) i)
    (λ t m. document_of {A = g.row.A.Denot} c.args.document.now c.in-Study.bench s t c.in-Study.is m)
    (c.document_pgn.ensures s (bench_of c.args.document.now c.in-Study.bench s c.in-Study.is h))

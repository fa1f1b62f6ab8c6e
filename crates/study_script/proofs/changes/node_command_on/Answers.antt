use Rattle.std.proofs.Common.{ℕ, List, subst}
use Rattle.std.proofs.lemmas.Bool.{false≢true}
use Rattle.study_marks.specs.Study.{plain_study}
use Rattle.study_marks.specs.BenchState.{marked_study}
use Rattle.study_command.specs.Paths.{steps_of}
use Rattle.study_command.specs.Documents.{study}
use Rattle.study_script.specs.State.{Environment, no_path}
use Rattle.study_script.specs.SessionHolds.{HoldsBenchFrom}
use Rattle.study_script.specs.Replies.{IsStudyReply, IsStudyReplyAt}
use Rattle.study_script.proofs.Executions.{executed_reported}
use Rattle.study_script.proofs.HeldBehindReplies.{bench_kept}
use Rattle.study_script.proofs.PlainNodes.{no_path_word}
use Rattle.study_script.proofs.InsertReplies.{node_command_on}
use Rattle.study_command.specs.Parser.{node_command}
use Rattle.study_script.specs.SessionHolds.{bench_seen}
use Rattle.study_script.specs.Executed.{Leaves}
use Rattle.study_script.proofs.changes.node_command_on.Goals as goal

pub returns-in-Ok-clause-done : goal.returns-in-Ok-clause-done
returns-in-Ok-clause-done g c = λ s h. let old = plain_study (marked_study c.args.bench.now) in executed_reported
    {I = λ (o : Environment). IsStudyReply s c.args.word old c.in-Ok.path}
    {J = λ (o : Environment). IsStudyReplyAt s o c.args.word (study old) (steps_of c.args.path.now)}
    {H = HoldsBenchFrom s c.node_command_at.new.bench} {K = HoldsBenchFrom s c.node_command_at.new.bench} c.node_command_at.result
    (λ o r i. node_command_on s old c.args.word (steps_of c.args.path.now) o r
    (subst (λ (x : List ℕ). IsStudyReply s c.args.word old x r) c.in-Ok.ensures.path i)) (λ t m. m) (c.node_command_at.ensures.done s h)

pub returns-in-Err-clause-done : goal.returns-in-Err-clause-done
returns-in-Err-clause-done g c = λ s h. (
  no_path,
  s,
  no_path_word s c.args.word (plain_study (marked_study c.args.bench.now)) (steps_of c.args.path.now) (λ e. false≢true (c.in-Err.ensures.root e)),
  bench_kept c.args.bench.now s h,
)

pub returns-in-Ok-clause-document : goal.returns-in-Ok-clause-document
returns-in-Ok-clause-document g c =
    subst (λ (x : List ℕ). Leaves c.node_command_at.result (node_command c.args.word x) (bench_seen c.args.bench.now) (bench_seen c.node_command_at.new.bench))
    c.in-Ok.ensures.path c.node_command_at.ensures.document

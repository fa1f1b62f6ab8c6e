use Rattle.std.proofs.Common.{ℕ, List, subst}
use Rattle.std.proofs.lemmas.Bool.{false≢true}
use Rattle.study_tree.specs.Tree.{has_spot}
use Rattle.study_marks.specs.Study.{plain_study}
use Rattle.study_marks.specs.BenchState.{marked_study}
use Rattle.study_script.specs.declared.document.Document.TheVariants as held
use Rattle.study_command.specs.Paths.{steps_of}
use Rattle.study_command.specs.Documents.{study}
use Rattle.study_script.specs.State.{Environment, no_path}
use Rattle.study_script.specs.SessionHolds.{Holds}
use Rattle.study_script.specs.Replies.{IsMoveReplyAt, IsInsertReply}
use Rattle.study_script.proofs.Executions.{executed_reported}
use Rattle.study_script.proofs.PlainNodes.{no_path_insert}
use Rattle.study_script.proofs.InsertReplies.{with_path}
use Rattle.study_command.specs.Parser.{insert}
use Rattle.study_script.specs.SessionHolds.{bench_seen}
use Rattle.study_script.specs.Executed.{Leaves}
use Rattle.study_script.proofs.changes.insert_in_study.Goals as goal

pub returns-in-Ok-clause-done : goal.returns-in-Ok-clause-done
returns-in-Ok-clause-done g c = λ s h. let old = plain_study (marked_study c.args.bench.now) in executed_reported
    {I = λ (o : Environment). IsMoveReplyAt s o old c.in-Ok.path c.args.san.now (has_spot old.tree c.in-Ok.path)}
    {J = λ (o : Environment). IsInsertReply s o (study old) (steps_of c.args.path.now) c.args.san.now}
    {H = Holds g.P.PageSource.honest g.P.PageSource.gives (held.Study c.insert_at.new.bench) c.insert_at.new.tables}
    {K = Holds g.P.PageSource.honest g.P.PageSource.gives (held.Study c.insert_at.new.bench) c.insert_at.new.tables} c.insert_at.result
    (λ o r i. with_path s old (steps_of c.args.path.now) c.args.san.now o r
    (subst (λ (x : List ℕ). IsMoveReplyAt s o old x c.args.san.now (has_spot old.tree x) r) c.in-Ok.ensures.path i)) (λ t m. m)
    (c.insert_at.ensures.done s h)

pub returns-in-Err-clause-done : goal.returns-in-Err-clause-done
returns-in-Err-clause-done g c = λ s h. (
  no_path,
  s,
  no_path_insert s (plain_study (marked_study c.args.bench.now)) (steps_of c.args.path.now) c.args.san.now (λ e. false≢true (c.in-Err.ensures.root e)),
  h,
)

pub returns-in-Ok-clause-document : goal.returns-in-Ok-clause-document
returns-in-Ok-clause-document g c =
    subst (λ (x : List ℕ). Leaves c.insert_at.result (insert x c.args.san.now) (bench_seen c.args.bench.now) (bench_seen c.insert_at.new.bench))
    c.in-Ok.ensures.path c.insert_at.ensures.document

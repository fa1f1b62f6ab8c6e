use Rattle.std.proofs.Common.{◌≡◌, ℕ, List, subst}
use Rattle.study_marks.specs.BenchState.{marked_study}
use Rattle.study_marks.specs.Study.{plain_study}
use Rattle.study_command.specs.Paths.{steps_of}
use Rattle.study_script.specs.State.{quiet, no_path}
use Rattle.std.proofs.lemmas.Bool.{false≢true}
use Rattle.study_script.proofs.PlainNodes.{no_path_study, node_found}
use Rattle.study_marks.specs.Bench.{start_at}
use Rattle.study_script.proofs.queries.node_start.Goals as goal

pub returns-in-Ok : goal.returns-in-Ok
returns-in-Ok g c = (
  quiet,
  node_found (marked_study c.args.bench.now) (steps_of c.args.path.now) c.start_at.result c.ok_or.result
      (subst (λ (x : List ℕ). c.start_at.result ≡ start_at (marked_study c.args.bench.now) x) c.in-Ok.ensures.path
      c.start_at.ensures) c.ok_or.ensures.value,
)

pub returns-in-Err : goal.returns-in-Err
returns-in-Err g c = (
  no_path,
  no_path_study (plain_study (marked_study c.args.bench.now)) (steps_of c.args.path.now)
      (λ e. false≢true (c.in-Err.ensures.root e)),
)

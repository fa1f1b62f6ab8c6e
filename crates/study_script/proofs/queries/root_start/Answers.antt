use Rattle.std.proofs.Common.{◌≡◌, ℕ, List, length, rules, subst}
use Rattle.study_command.specs.Paths.{steps_of}
use Rattle.study_script.specs.State.{quiet, no_path}
use Rattle.std.proofs.lemmas.Bool.{false≢true}
use Rattle.study_script.proofs.PlainNodes.{no_path_start, root_found, root_alone}
use Rattle.study_script.proofs.queries.root_start.Goals as goal

pub returns-then-is_empty : goal.returns-then-is_empty
returns-then-is_empty g c = (
  quiet,
  root_found c.args.start.now c.copied.result (steps_of c.args.path.now)
      (let e : length c.in-Ok.path ≡ 0 = search rules in subst (λ (x : List ℕ). length x ≡ 0) c.in-Ok.ensures.path e)
      c.copied.ensures,
)

pub returns-in-Ok : goal.returns-in-Ok
returns-in-Ok g c = (
  quiet,
  root_alone c.args.start.now (steps_of c.args.path.now)
      (subst (λ (x : List ℕ). length x ≡ 0 → ⊥) c.in-Ok.ensures.path (let n : length c.in-Ok.path ≡ 0
      → ⊥ = search rules in n)),
)

pub returns : goal.returns
returns g c = (no_path, no_path_start c.args.start.now (steps_of c.args.path.now) (λ e. false≢true (c.in-Err.ensures.root e)))

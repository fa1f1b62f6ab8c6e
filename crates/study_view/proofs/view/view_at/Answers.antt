use Rattle.std.proofs.Common.{List, ℕ, refl, sym, subst, IsTrue}
use Rattle.study_tree.specs.Tree.{has_spot}
use Rattle.study_tree.proofs.TreeDepth.{within-length}
use Rattle.study_marks.specs.BenchState.{marked_study}
use Rattle.study_marks.proofs.PathRenewed.{no-spot}
use Rattle.study_view.proofs.StartsAt.{start-found, start-gone}
use Rattle.study_view.proofs.view.view_at.Goals as goal

pub view_from-requires-clause-short : goal.view_from-requires-clause-short
view_from-requires-clause-short g c =
    let s = marked_study c.args.bench.now in
    within-length 256 s.tree.below c.steps.result.now c.start-first.ensures.study.shallow
    (subst (λ (p : List ℕ). IsTrue (has_spot s.tree p)) (sym c.steps.ensures) (start-found s c.args.path.now c.in-Some.start c.in-Some.ensures))

pub returns-in-None-clause-no_node : goal.returns-in-None-clause-no_node
returns-in-None-clause-no_node g c = (λ e. start-gone (marked_study c.args.bench.now) c.args.path.now c.in-None.ensures, λ n. refl)

pub returns-in-Some-clause-no_node : goal.returns-in-Some-clause-no_node
returns-in-Some-clause-no_node g c =
    let s = marked_study c.args.bench.now in (
      λ e. absurd (c.view_from.ensures.found e),
      λ n. absurd (no-spot s.tree c.args.path.now (start-found s c.args.path.now c.in-Some.start c.in-Some.ensures) n),
    )

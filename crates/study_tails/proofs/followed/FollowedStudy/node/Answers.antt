use Rattle.std.proofs.Common.{◌≡◌, ℕ, List, ◌++◌, Some, sym, ap, ◌∙◌}
use Rattle.study_tree.specs.Tree.{Plain}
use Rattle.study_marks.specs.FaultSums.{below_at}
use Rattle.study_tails.specs.Laws.{wide_start_at}
use Rattle.study_tails.proofs.Resumed.{resumed, resumed_playable}
use Rattle.study_tails.proofs.followed.FollowedStudy.node.Goals as goal

pub descend-requires : goal.descend-requires
descend-requires g c =
    let inside = c.self.inside in
    let tree_is : c.in-Some-subtree_at.tree.below ≡ below_at inside.study.tree.below inside.steps.items =
    c.in-Some-subtree_at.ensures
    ∙ ap (λ (t : Plain (Unit {0})). below_at t.below c.as_slice-2.result.now) c.root.ensures
    ∙ ap (λ x. below_at x.study.tree.below c.as_slice-2.result.now) c.self-inside.view_is
    ∙ ap (below_at inside.study.tree.below) c.as_slice-2.ensures.value
    ∙ ap (λ x. below_at inside.study.tree.below x.steps.items) c.self-inside.view_is in
    let start_is : wide_start_at inside.study inside.steps.items ≡ Some c.copied_start.result =
    c.self.invariant ∙ ap Some (sym (c.copied_start.ensures ∙ ap (λ x. x.start) c.self-inside.view_is)) in
    resumed_playable inside.study inside.steps.items c.copied_start.result c.in-Some-subtree_at.tree.below c.start-start.ensures.study.playable start_is tree_is

pub returns-in-Some-subtree_at-clause-found : goal.returns-in-Some-subtree_at-clause-found
returns-in-Some-subtree_at-clause-found g c =
    let inside = c.self.inside in
    let tree_is : c.in-Some-subtree_at.tree.below ≡ below_at inside.study.tree.below inside.steps.items =
    c.in-Some-subtree_at.ensures
    ∙ ap (λ (t : Plain (Unit {0})). below_at t.below c.as_slice-2.result.now) c.root.ensures
    ∙ ap (λ x. below_at x.study.tree.below c.as_slice-2.result.now) c.self-inside.view_is
    ∙ ap (below_at inside.study.tree.below) c.as_slice-2.ensures.value
    ∙ ap (λ x. below_at inside.study.tree.below x.steps.items) c.self-inside.view_is in
    let start_is : wide_start_at inside.study inside.steps.items ≡ Some c.copied_start.result =
    c.self.invariant ∙ ap Some (sym (c.copied_start.ensures ∙ ap (λ x. x.start) c.self-inside.view_is)) in
    let path : c.args.steps.now ≡ inside.steps.items ++ c.in-Some.rest.now =
    c.in-Some.ensures
    ∙ ap (λ (xs : List ℕ). xs ++ c.in-Some.rest.now) c.as_slice.ensures.value
    ∙ ap (λ x. x.steps.items ++ c.in-Some.rest.now) c.self-inside.view_is in
    rw (
      ← c.self.view_is,
      resumed inside.study c.args.steps.now inside.steps.items c.in-Some.rest.now c.copied_start.result c.in-Some-subtree_at.tree.below path
          start_is tree_is,
    )
    c.descend.ensures.found

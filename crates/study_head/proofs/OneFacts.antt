-- The facts of a solution are fixed by its study.
use Rattle.std.proofs.Common.{◌≡◌, ◌+◌, Bool, true, false, not, List, [], ◌∷◌, ℕ, Option, Some, None, length, sym, ap, subst, ◌∙◌}
use Rattle.std.specs.Prelude.{MatchOption}
use Rattle.study_moves.specs.declared.moves.Move.{Move}
use Rattle.study_moves.specs.LegalList.{legal_list}
use Rattle.study_moves.specs.Laws.{EachHasAtMostOneValue}
use Rattle.study_tree.specs.Tree.{spot_at}
use Rattle.study_marks.specs.declared.mark.Mark.{Mark}
use Rattle.study_marks.specs.declared.mark.MoveMark.{MoveMark}
use Rattle.study_marks.specs.declared.mark.MoveMark.TheVariants.{Only, Dual, Mistake, Idle, Reply}
use Rattle.study_marks.specs.Bench.{played_by}
use Rattle.study_marks.specs.FaultSums.{below_at}
use Rattle.study_marks.specs.Study.{Study, position_at}
use Rattle.study_marks.specs.Goals.{aim_of, holds}
use Rattle.study_facts.specs.Line.{line_to, moves_of}
use Rattle.study_facts.specs.Nodes.{parent_path, mark_at, value_at, is_solution_move}
use Rattle.study_facts.specs.Order.{written_order}
use Rattle.study_facts.specs.Walk.{AddsEach}
use Rattle.study_facts.proofs.OneFacts.{one-chosen, one-alternatives, one-defences}
use Rattle.study_head.specs.declared.solution.SolutionFacts.{SolutionFacts}
use Rattle.study_head.specs.declared.reached.Reached.{Reached}
use Rattle.study_head.specs.Reached.{all_reached}
use Rattle.study_head.specs.Solution.{Either, AddsHeroMove, AddsDefence, AddsMove, AddsNode, is_given_defence, no_facts, SolutionFactsAreUnique}
use Rattle.study_head.specs.Solution.{with_dual, dual_at, with_mistake, first_reply, with_missing, named_defence, main_defence}

abbrev One : (SolutionFacts → Type 0) → Type 0
One P = (x y : SolutionFacts) → P x → P y → x ≡ y

one-either : (b : Bool) (P Q : SolutionFacts → Type 0) → One P → One Q → One (λ x. Either b (P x) (Q x))
one-either true P Q p q = p
one-either false P Q p q = q

one-match : (o : Option Move) (old : SolutionFacts) (P : Move → SolutionFacts → Type 0) → ((m : Move) → One (P m))
    → One (λ x. MatchOption o (x ≡ old) (λ m. P m x))
one-match None old P f x y h j = h ∙ sym j
one-match (Some m) old P f x y h j = f m x y h j

module _ (law : EachHasAtMostOneValue) (s : Study Mark) (known : List Reached) where
  one-hero-move : (path : List ℕ) (m : Move) (mark : Option MoveMark) (old : SolutionFacts) → One (AddsHeroMove s path m mark old)
  one-hero-move path m None old x y h j = h ∙ sym j
  one-hero-move path m (Some (Dual k)) old x y h j =
      h.2 ∙ ap (λ l. with_dual old (dual_at s path m l))
      (one-alternatives law (aim_of s) (length (parent_path path)) (line_to s (parent_path path)) (position_at s (parent_path path)) m h.0 j.0 h.1 j.1)
      ∙ sym j.2
  one-hero-move path m (Some Mistake) old x y h j =
      h.2 ∙ ap (λ l. with_mistake old (first_reply s path l))
      (one-chosen law (λ v. not (holds (aim_of s) (length path + 1) v)) (position_at s path) (legal_list (position_at s path)) h.0 j.0 h.1 j.1) ∙ sym j.2
  one-hero-move path m (Some Only) old x y h j = h ∙ sym j
  one-hero-move path m (Some Idle) old x y h j = h ∙ sym j
  one-hero-move path m (Some Reply) old x y h j = h ∙ sym j

  one-defence : (path : List ℕ) (old : SolutionFacts) → One (AddsDefence s known path old)
  one-defence path old x y h j =
      h.2 ∙ ap (λ l. with_missing old (named_defence s path (main_defence known (position_at s (parent_path path)) (value_at s path) l)))
      (one-defences law (aim_of s) (length (parent_path path)) (position_at s (parent_path path)) (moves_of (below_at s.tree.below (parent_path path)))
      h.0 j.0 h.1 j.1) ∙ sym j.2

  one-move : (path : List ℕ) (m : Move) (old : SolutionFacts) → One (AddsMove s known path m old)
  one-move path m old =
      one-either (is_solution_move s path) _ _ (one-hero-move path m (mark_at s path) old)
      (one-either (is_given_defence s path) _ _ (one-defence path old) (λ x y h j. h ∙ sym j))

  one-node : (path : List ℕ) (old : SolutionFacts) → One (AddsNode s known path old)
  one-node path old = one-match (played_by (spot_at s.tree path)) old (λ m. AddsMove s known path m old) (λ m. one-move path m old)

  one-each : (paths : List (List ℕ)) (old : SolutionFacts) → One (AddsEach (AddsNode s known) paths old)
  one-each [] old x y h j = h ∙ sym j
  one-each (path ∷ paths) old x y h j =
      let same : h.0 ≡ j.0 = one-node path old h.0 j.0 h.1 j.1 in
      one-each paths j.0 x y (subst (λ (mid : SolutionFacts). AddsEach (AddsNode s known) paths mid x) same h.2) j.2

pub one-facts : EachHasAtMostOneValue → SolutionFactsAreUnique
one-facts law s = one-each law s (all_reached s) (written_order s) no_facts

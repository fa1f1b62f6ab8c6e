-- What one step of a walk adds to the facts of a solution.
use Rattle.std.proofs.Common.{◌≡◌, ◌+◌, ◌≤◌, ◌<◌, ◌^◌, true, false, List, [], ◌∷◌, ◌++◌, ℕ, Option, Some, None, length, refl, sym, ap, subst, ◌∙◌, arith}
use Rattle.std.proofs.lemmas.List.{length-append, append-nil, append_assoc}
use Rattle.std.specs.Prelude.{MatchOption}
use Rattle.std.specs.List.{flat_map}
use Rattle.study_board.specs.Position.{Position}
use Rattle.study_moves.specs.declared.moves.Move.{Move}
use Rattle.study_values.specs.declared.value.Value.{Value}
use Rattle.study_tree.specs.Forest.{Forest, none, more}
use Rattle.study_tree.specs.Edits.{node_in, width}
use Rattle.study_tree.specs.Tree.{Plain, spot_at, twig_spot}
use Rattle.study_marks.proofs.PathWalks.{spot_last, width_none}
use Rattle.study_facts.proofs.NodesShown.{front-is}
use Rattle.study_marks.specs.declared.mark.Mark.{Mark}
use Rattle.study_marks.specs.declared.mark.MoveMark.{MoveMark}
use Rattle.study_marks.specs.Bench.{played_by}
use Rattle.study_marks.specs.FaultSums.{below_at}
use Rattle.study_marks.specs.Study.{Study, position_at}
use Rattle.study_marks.specs.Goals.{aim_of}
use Rattle.study_facts.specs.declared.study_node.StudyMove.{StudyMove}
use Rattle.study_facts.specs.declared.study_node.StudyNode.{StudyNode}
use Rattle.study_facts.specs.declared.continuation.EvaluatedMove.{EvaluatedMove}
use Rattle.study_facts.specs.declared.time_loss.Alternative.{Alternative}
use Rattle.study_facts.specs.declared.missing_defences.Defence.{Defence}
use Rattle.study_facts.specs.Continuations.{AreRefutations}
use Rattle.study_facts.specs.Time.{AreTimedAlternatives}
use Rattle.study_facts.specs.Defences.{AreDefences}
use Rattle.study_facts.specs.Line.{moves_of}
use Rattle.study_facts.specs.Nodes.{parent_path, mark_at, value_at, is_solution_move}
use Rattle.study_facts.specs.StudyNode.{IsStudyNode, IsStudyMove}
use Rattle.study_facts.specs.Walk.{AddsEach}
use Rattle.study_facts.proofs.AtPath.{as-made, as-placed}
use Rattle.study_head.specs.declared.solution.SolutionFacts.{SolutionFacts}
use Rattle.study_head.specs.declared.reached.Reached.{Reached}
use Rattle.study_head.specs.Solution.{with_dual, dual_at, with_mistake, first_reply, with_missing, named_defence, main_defence}
use Rattle.study_head.specs.Solution.{AddsDual, AddsMistake, AddsHeroMove, AddsDefence, AddsMove, AddsNode, is_given_defence}

pub dual-added : (s : Study Mark) (x : StudyMove) → IsStudyMove s x → (list : List Alternative) (old new : SolutionFacts)
    → AreTimedAlternatives x.before.aim.now x.before.depth x.line.now x.before.position.now x.played list
    → new ≡ with_dual old (dual_at s x.steps.now x.played list) → AddsDual s x.steps.now x.played old new
dual-added s x h list old new k e = (list, as-made s x h (λ a d l p. AreTimedAlternatives a d l p x.played list) k, e)

pub mistake-added : (s : Study Mark) (x : StudyNode) → IsStudyNode s x → (list : List EvaluatedMove) (old new : SolutionFacts)
    → AreRefutations x.node.aim.now x.node.depth x.node.position.now list
    → new ≡ with_mistake old (first_reply s x.steps.now list) → AddsMistake s x.steps.now old new
mistake-added s x h list old new k e = (list, as-placed s x h (λ a d p. AreRefutations a d p list) k, e)

pub defence-added : (s : Study Mark) (known : List Reached) (x : StudyMove) → IsStudyMove s x → (there : List Move) (list : List Defence)
    → (old new : SolutionFacts) → there ≡ moves_of (below_at s.tree.below (parent_path x.steps.now))
    → AreDefences x.before.aim.now x.before.depth x.before.position.now there list
    → new ≡ with_missing old (named_defence s x.steps.now (main_defence known x.before.position.now x.mark.value list))
    → AddsDefence s known x.steps.now old new
defence-added s known x h there list old new all k e =
    let placed = as-made s x h (λ a d l p. AreDefences a d p there list) k in
    let missing : Position → Value → SolutionFacts = λ p v. with_missing old (named_defence s x.steps.now (main_defence known p v list)) in (
      list,
      subst (λ (ms : List Move). AreDefences (aim_of s) (length (parent_path x.steps.now)) (position_at s (parent_path x.steps.now)) ms list) all placed,
      e ∙ ap (λ v. missing x.before.position.now v) h.value
          ∙ as-made s x h (λ a d l p. missing x.before.position.now (value_at s x.steps.now) ≡ missing p (value_at s x.steps.now)) refl,
    )

-- what a walk adds to the facts that it keeps in something else
pub facts-each : {T : Type 0} (P : List ℕ → SolutionFacts → SolutionFacts → Type 0) (f : T → SolutionFacts) (paths : List (List ℕ)) (old new : T)
    → AddsEach (λ path a b. P path (f a) (f b)) paths old new → AddsEach P paths (f old) (f new)
facts-each P f [] old new h = ap f h
facts-each P f (path ∷ paths) old new h = (f h.0, h.1, facts-each P f paths h.0 new h.2)

-- what a walk adds, if what that depends on stays as it is
pub kept-each : {T K : Type 0} (P : K → List ℕ → T → T → Type 0) (k : T → K) (paths : List (List ℕ)) (old new : T)
    → AddsEach (λ path a b. P (k a) path a b × (k b ≡ k a)) paths old new → AddsEach (P (k old)) paths old new
kept-each P k [] old new h = h
kept-each P k (path ∷ paths) old new h =
    (h.0, h.1.0, subst (λ x. AddsEach (P x) paths h.0 new) h.1.1 (kept-each P k paths h.0 new h.2))

-- the lists that a walk adds to one, one behind the other
pub lists-each : {L T : Type 0} (Of : List ℕ → List L) (items : T → List L) (paths : List (List ℕ)) (old new : T)
    → AddsEach (λ path a b. items b ≡ items a ++ Of path) paths old new → items new ≡ items old ++ flat_map Of paths
lists-each Of items [] old new h = ap items h ∙ sym (append-nil (items old))
lists-each Of items (path ∷ paths) old new h =
    lists-each Of items paths h.0 new h.2 ∙ ap (λ l. l ++ flat_map Of paths) h.1 ∙ append_assoc (items old) (Of path) (flat_map Of paths)

-- there is a node before each move
pub move-begins : {L : Type 0} (t : Plain L) (front : List ℕ) (k : ℕ) (m : Move) → spot_at t front ≡ None
    → played_by (spot_at t (front ++ k ∷ [])) ≡ Some m → ⊥
move-begins {L = L} t front k m gone e = go (below_at t.below front) (width_none t front gone) (sym (ap played_by (spot_last t front k)) ∙ e)
  where
    go : (f : Forest L) → width f ≡ 0 → played_by (twig_spot (node_in f k [])) ≡ Some m → ⊥
    go none w h = let no : ⊥ = cc in no
    go (more n l b r) w h = omega (arith, w)

-- the node before a move is less deep
pub front-shallow : (steps front : List ℕ) (k d : ℕ) → steps ≡ front ++ k ∷ [] → length steps ≤ 256 → d ≡ length (parent_path steps) → d + 2 < 2 ^ 64
front-shallow steps front k d e few h =
    let same : front ≡ parent_path steps = front-is steps front k e in
    let long : length steps ≡ length front + 1 = ap (λ (l : List ℕ). length l) e ∙ length-append front (k ∷ []) in
    let deep : d ≡ length front = h ∙ ap (λ (l : List ℕ). length l) (sym same) in
    omega (arith, few, long, deep)

module _ (s : Study Mark) (known : List Reached) (path : List ℕ) where
  -- a move of the hero in the solution
  pub hero-node : (m : Move) (old new : SolutionFacts) → played_by (spot_at s.tree path) ≡ Some m → is_solution_move s path ≡ true
      → AddsHeroMove s path m (mark_at s path) old new → AddsNode s known path old new
  hero-node m old new e is k =
      let one : AddsMove s known path m old new = rw is k in
      subst (λ (o : Option Move). MatchOption o (new ≡ old) (λ n. AddsMove s known path n old new)) (sym e) one

  pub defence-node : (m : Move) (old new : SolutionFacts) → played_by (spot_at s.tree path) ≡ Some m → is_solution_move s path ≡ false
      → is_given_defence s path ≡ true → AddsDefence s known path old new → AddsNode s known path old new
  defence-node m old new e not is k =
      let one : AddsMove s known path m old new = rw not (rw is k) in
      subst (λ (o : Option Move). MatchOption o (new ≡ old) (λ n. AddsMove s known path n old new)) (sym e) one

  pub other-node : (m : Move) (old : SolutionFacts) → played_by (spot_at s.tree path) ≡ Some m → is_solution_move s path ≡ false
      → is_given_defence s path ≡ false → AddsNode s known path old old
  other-node m old e not other =
      let one : AddsMove s known path m old old = rw not (rw other refl) in
      subst (λ (o : Option Move). MatchOption o (old ≡ old) (λ n. AddsMove s known path n old old)) (sym e) one

module _ (s : Study Mark) (path : List ℕ) where
  -- by the mark of the move
  pub by-mark : (m : Move) (mark : Option MoveMark) (old new : SolutionFacts) → mark ≡ mark_at s path → AddsHeroMove s path m mark old new
      → AddsHeroMove s path m (mark_at s path) old new
  by-mark m mark old new e k = subst (λ (o : Option MoveMark). AddsHeroMove s path m o old new) e k

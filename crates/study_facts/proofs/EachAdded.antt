-- What a walk adds, node by node, in written order.
use Rattle.std.proofs.Common.{◌≡◌, ℕ, ◌+◌, ◌≤◌, ◌<◌, suc, List, [], ◌∷◌, ◌++◌, refl, sym, ap, subst, ◌∙◌, add-one, arith}
use Rattle.std.proofs.lemmas.List.{append-nil}
use Rattle.study_tree.specs.Forest.{Forest}
use Rattle.study_tree.specs.Edits.{width}
use Rattle.study_marks.specs.declared.mark.Mark.{Mark}
use Rattle.study_marks.specs.FaultSums.{below_at, siblings_from}
use Rattle.study_marks.specs.Study.{Study}
use Rattle.study_marks.proofs.ChildFound.{skipped-end}
use Rattle.study_marks.proofs.PathWalks.{below_entered}
use Rattle.study_facts.specs.Made.{Grew, Rose}
use Rattle.study_facts.specs.Order.{paths_from, LinesOfEach, SumOfEach, written_order}
use Rattle.study_facts.specs.Walk.{AddsEach}
use Rattle.study_facts.proofs.WrittenOrder.{node-here, both-written}
use Rattle.study_facts.proofs.TimeCounted.{both-summed}

module _ {T : Type 0} (Adds : List ℕ → T → T → Type 0) where
  each-both : (xs ys : List (List ℕ)) (a b c : T) → AddsEach Adds xs a b → AddsEach Adds ys b c → AddsEach Adds (xs ++ ys) a c
  each-both [] ys a b c h k = subst (λ t. AddsEach Adds ys t c) h k
  each-both (x ∷ xs) ys a b c h k = (h.0, h.1, each-both xs ys h.0 b c h.2 k)

  -- what the remaining nodes add from here on, all nodes add from the loop's start on
  abbrev pub AddsOn : List ℕ → Forest Mark → ℕ → T → T → Type 0
  AddsOn path f k initial now = (end : T) → AddsEach Adds (paths_from path k (siblings_from k f)) now end → AddsEach Adds (paths_from path 0 f) initial end

  pub none-added : (path : List ℕ) (f : Forest Mark) (t : T) → AddsOn path f 0 t t
  none-added path f t = λ end h. h

  -- a child is added, and the nodes below it
  pub child-added : (f : Forest Mark) (steps path : List ℕ) (k : ℕ) (initial old mid new : T) → path ≡ steps ++ k ∷ []
      → k < width (below_at f steps) → Adds path old mid → AddsEach Adds (paths_from path 0 (below_at f path)) mid new
      → AddsOn steps (below_at f steps) k initial old → AddsOn steps (below_at f steps) (k + 1) initial new
  child-added f steps path k initial old mid new e lt own below h =
      let g = below_at f steps in
      let x = node-here g k lt in
      let t = x.0 in
      let child = steps ++ k ∷ [] in
      let same : below_at f path ≡ t.below = ap (below_at f) e ∙ below_entered f steps k t x.1 in
      let one : AddsEach Adds (child ∷ paths_from child 0 t.below) old new =
      subst (λ (b : Forest Mark). AddsEach Adds (child ∷ paths_from child 0 b) old new) same
      (subst (λ (p : List ℕ). AddsEach Adds (p ∷ paths_from p 0 (below_at f path)) old new) e (mid, own, below)) in
      let here : paths_from steps k (siblings_from k g) ≡ (child ∷ paths_from child 0 t.below) ++ paths_from steps (k + 1) (siblings_from (suc k) g) =
      ap (paths_from steps k) x.2 in
      λ end left.
      h end (subst (λ (ps : List (List ℕ)). AddsEach Adds ps old end) (sym here)
      (each-both (child ∷ paths_from child 0 t.below) (paths_from steps (k + 1) (siblings_from (suc k) g)) old new end one
      (subst (λ j. AddsEach Adds (paths_from steps (k + 1) (siblings_from j g)) new end) (add-one k) left)))

  -- all children are added
  pub below-added : (f : Forest Mark) (steps : List ℕ) (k : ℕ) (old new : T) → width (below_at f steps) ≤ k
      → AddsOn steps (below_at f steps) k old new → AddsEach Adds (paths_from steps 0 (below_at f steps)) old new
  below-added f steps k old new few h =
      let g = below_at f steps in
      h new (subst (λ (r : Forest Mark). AddsEach Adds (paths_from steps k r) new new) (sym (skipped-end k g few)) refl)

  -- the root, and all nodes below it
  pub all-added : (s : Study Mark) (path : List ℕ) (old mid new : T) → path ≡ [] → Adds [] old mid
      → AddsEach Adds (paths_from path 0 (below_at s.tree.below path)) mid new → AddsEach Adds (written_order s) old new
  all-added s path old mid new e own h =
      (mid, own, subst (λ (q : List ℕ). AddsEach Adds (paths_from q 0 (below_at s.tree.below q)) mid new) e h)

  -- a text to which each node adds lines has the lines of each
  pub grew-each : (P : List ℕ → List ℕ → Type 0) (part : T → List ℕ)
      → ((path : List ℕ) (a b : T) → Adds path a b → Grew (P path) (part a) (part b))
      → (paths : List (List ℕ)) (a b : T) → AddsEach Adds paths a b → Grew (LinesOfEach P paths) (part a) (part b)
  grew-each P part grew [] a b h = ([], refl, ap part h ∙ sym (append-nil (part a)))
  grew-each P part grew (x ∷ xs) a b h =
      both-written P x xs (part a) (part h.0) (part b) (grew x a h.0 h.1) (grew-each P part grew xs h.0 b h.2)

  -- a count that each node raises has risen by the sum
  pub rose-each : (P : List ℕ → ℕ → Type 0) (part : T → ℕ)
      → ((path : List ℕ) (a b : T) → Adds path a b → Rose (P path) (part a) (part b))
      → (paths : List (List ℕ)) (a b : T) → AddsEach Adds paths a b → Rose (SumOfEach P paths) (part a) (part b)
  rose-each P part rose [] a b h = (0, refl, λ few. (let same : part b ≡ part a = ap part h in let z : part b ≡ part a + 0 = omega (arith, same) in z))
  rose-each P part rose (x ∷ xs) a b h =
      both-summed P x xs (part a) (part h.0) (part b) (rose x a h.0 h.1) (rose-each P part rose xs h.0 b h.2)

-- The walk state where a walk is.
use Rattle.std.proofs.Common.{◌≡◌, ◌<◌, ◌-◌, ℕ, List, [], ◌∷◌, ◌++◌, length, take, refl, sym, ap, subst, ◌∙◌, arith, length-append}
use Rattle.std.proofs.Math.Seq.{take-append_seam}
use Rattle.study_marks.specs.declared.mark.Mark.{Mark}
use Rattle.study_marks.specs.Study.{Study}
use Rattle.study_facts.specs.declared.walk_state.WalkState.{WalkState}
use Rattle.study_facts.specs.Nodes.{parent_path}
use Rattle.study_facts.specs.Walk.{IsAt}
use Rattle.study_facts.specs.WalkState.{IsStateAt}
use Rattle.study_facts.proofs.NodesShown.{front-is}

abbrev last_or : {X : Type 0} → X → List X → X
last_or d [] = d
last_or d (x ∷ xs) = last_or x xs

last-pushed : {X : Type 0} (d x : X) (xs : List X) → last_or d (xs ++ x ∷ []) ≡ x
last-pushed d x [] = refl
last-pushed d x (y ∷ ys) = last-pushed y x ys

last-same : {X : Type 0} (xs ys : List X) (x y : X) → xs ++ x ∷ [] ≡ ys ++ y ∷ [] → x ≡ y
last-same xs ys x y e = sym (last-pushed x x xs) ∙ ap (last_or x) e ∙ last-pushed x y ys

-- a last one is pushed, and taken off again
pub taken-off : {X : Type 0} (xs ys zs : List X) (x : X) (n : ℕ) → ys ≡ xs ++ x ∷ [] → n ≡ length ys → zs ≡ take (n - 1) ys → zs ≡ xs
taken-off xs ys zs x n pushed len rest =
    let e : n - 1 ≡ length xs = omega (arith, len, ap length pushed, length-append xs (x ∷ [])) in
    rest ∙ ap (λ k. take k ys) e ∙ ap (take (length xs)) pushed ∙ take-append_seam xs (x ∷ [])

module _ (s : Study Mark) (path : List ℕ) (states : List WalkState) (here : IsAt s path states) where
  pub at-some : 0 < length states
  at-some =
      let n = length-append here.0 (here.1.0 ∷ []) in
      let same = ap length here.1.2 in omega (arith, n, same)

  module _ (x : WalkState) (last : (front : List WalkState) × (states ≡ front ++ x ∷ [])) where
    pub at-last : IsStateAt s path x
    at-last = subst (IsStateAt s path) (last-same here.0 last.0 here.1.0 x (sym here.1.2 ∙ last.1)) here.1.1

    -- the walk state before the last move of a path
    pub at-front : (steps : List ℕ) (k : ℕ) → steps ≡ path ++ k ∷ [] → IsStateAt s (parent_path steps) x
    at-front steps k e = subst (λ (u : List ℕ). IsStateAt s u x) (front-is steps path k e) at-last

-- the walk begins at the root
pub root-state : (s : Study Mark) (path : List ℕ) (states : List WalkState) (x : WalkState) → path ≡ [] → states ≡ x ∷ [] → IsStateAt s [] x
    → IsAt s path states
root-state s path states x none one is = ([], (x, subst (λ (u : List ℕ). IsStateAt s u x) (sym none) is, one))

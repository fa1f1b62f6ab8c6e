-- The tails among siblings, one sibling after the other.
use Rattle.std.proofs.Common.{◌≡◌, ℕ, ◌+◌, ◌≤◌, suc, length, arith, length-append, Bool, true, false, List, [], ◌∷◌, ◌++◌, map}
use Rattle.std.proofs.Common.{Some, refl, sym, ap, ◌∙◌, append_assoc, append-nil}
use Rattle.std.specs.Prelude.{if◌then◌else◌}
use Rattle.std.proofs.lemmas.List.{map-append, length-map}
use Rattle.study_tree.specs.Forest.{none, more, nodes_in}
use Rattle.study_tree.specs.Edits.{node_in}
use Rattle.study_marks.specs.FaultSums.{siblings_from}
use Rattle.study_wide.specs.Wide.{Wide}
use Rattle.study_wide.specs.Rules.{wide_after, is_small}
use Rattle.study_tails.specs.Study.{Moves}
use Rattle.study_tails.specs.Tails.{tails_among, tails_from}
use Rattle.study_tails.proofs.Nodes.{Branch, from_child}

abbrev pub below : List ℕ → List (List ℕ) → List (List ℕ)
below path ps = map (λ p. path ++ p) ps

longer : (path : List ℕ) (k : ℕ) (ps : List (List ℕ)) → below (path ++ k ∷ []) ps ≡ below path (map (λ p. k ∷ p) ps)
longer path k [] = refl
longer path k (p ∷ ps) = rw (append_assoc path (k ∷ []) p, longer path k ps) refl

pub listed_child : (g : Wide) (path : List ℕ) (k next : ℕ) (f : Moves) (t : Branch) (front : List ℕ) (after : Wide) (xs ys : List (List ℕ)) → next ≡ suc k
    → node_in f k [] ≡ Some t → front ≡ path ++ k ∷ [] → after ≡ wide_after g t.played → ys ≡ xs ++ below front (tails_from after t.below)
    → ys ++ below path (tails_among g next (siblings_from next f)) ≡ xs ++ below path (tails_among g k (siblings_from k f))
listed_child g path k next f t front after xs ys one e there position h =
    let these = tails_from (wide_after g t.played) t.below in
    let others = tails_among g (suc k) (siblings_from (suc k) f) in
    ap (λ (j : ℕ). ys ++ below path (tails_among g j (siblings_from j f))) one
    ∙ ap (λ (zs : List (List ℕ)). zs ++ below path others)
    (h ∙ ap (λ (q : List ℕ). xs ++ below q (tails_from after t.below)) there ∙ ap (λ (p : Wide). xs ++ below (path ++ k ∷ []) (tails_from p t.below)) position)
    ∙ append_assoc xs (below (path ++ k ∷ []) these) (below path others)
    ∙ ap (λ (zs : List (List ℕ)). xs ++ (zs ++ below path others)) (longer path k these)
    ∙ ap (λ (zs : List (List ℕ)). xs ++ zs) (sym (map-append (λ p. path ++ p) (map (λ p. k ∷ p) these) others))
    ∙ ap (λ (s : Moves). xs ++ below path (tails_among g k s)) (sym (from_child f k t e))

pub is_listed : (g : Wide) (path : List ℕ) (k : ℕ) (f : Moves) (xs ys : List (List ℕ)) → is_small g ≡ false → siblings_from k f ≡ none
    → ys ++ below path (tails_among g k (siblings_from k f)) ≡ xs ++ below path (tails_among g 0 f) → ys ≡ xs ++ below path (tails_from g f)
is_listed g path k f xs ys wide end h =
    sym (append-nil ys)
    ∙ ap (λ (s : Moves). ys ++ below path (tails_among g k s)) (sym end)
    ∙ h
    ∙ sym (ap (λ (b : Bool). xs ++ below path (if b then [] ∷ [] else tails_among g 0 f)) wide)

below_root : (ps : List (List ℕ)) → below [] ps ≡ ps
below_root [] = refl
below_root (p ∷ ps) = rw (below_root ps) refl

pub root_listed : (g : Wide) (f : Moves) (xs ys : List (List ℕ)) → xs ≡ [] → ys ≡ xs ++ below [] (tails_from g f) → ys ≡ tails_from g f
root_listed g f xs ys none_yet h =
    h ∙ ap (λ (zs : List (List ℕ)). zs ++ below [] (tails_from g f)) none_yet ∙ below_root (tails_from g f)

-- no more tails than nodes
few_among : (g : Wide) (k : ℕ) (f : Moves) → length (tails_among g k f) ≤ nodes_in f
few_among g k none = omega arith
few_among g k (more m l b r) =
    let these = if is_small (wide_after g m) then [] ∷ [] else tails_among (wide_after g m) 0 b in
    let own : length these ≤ 1 + nodes_in b = few_here (is_small (wide_after g m)) b (few_among (wide_after g m) 0 b) in
    let all : length (map (λ p. k ∷ p) these ++ tails_among g (suc k) r) ≡ length these + length (tails_among g (suc k) r) =
    length-append (map (λ p. k ∷ p) these) (tails_among g (suc k) r) ∙ ap (λ (n : ℕ). n + length (tails_among g (suc k) r)) (length-map these (λ p. k ∷ p)) in
    omega (arith, own, all, few_among g (suc k) r)
  where
    few_here : (v : Bool) (b : Moves) → length (tails_among (wide_after g m) 0 b) ≤ nodes_in b
        → length (if v then [] ∷ [] else tails_among (wide_after g m) 0 b) ≤ 1 + nodes_in b
    few_here true b h = omega arith
    few_here false b h = omega (arith, h)

pub few_tails : (g : Wide) (f : Moves) → length (tails_from g f) ≤ 1 + nodes_in f
few_tails g f = go (is_small g) (few_among g 0 f)
  where
    go : (v : Bool) → length (tails_among g 0 f) ≤ nodes_in f → length (if v then [] ∷ [] else tails_among g 0 f) ≤ 1 + nodes_in f
    go true h = omega arith
    go false h = omega (arith, h)

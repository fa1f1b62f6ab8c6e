-- The first move of a tree that is not legal.
use Rattle.std.proofs.Common.{◌≡◌, ℕ, ◌+◌, ◌<◌, ◌≤◌, List, [], ◌∷◌, ◌++◌, Bool, true, false, Option, Some}
use Rattle.std.proofs.Common.{None, refl, sym, ap, ◌∙◌, arith, zero, suc, subst, append_assoc}
use Rattle.std.specs.Prelude.{if◌then◌else◌, ◌-◌}
use Rattle.study_board.specs.Position.{Position}
use Rattle.study_moves.specs.Rules.{is_legal, after}
use Rattle.study_tree.specs.Forest.{Forest, none, more, Twig, nodes_in}
use Rattle.study_tree.specs.Edits.{IsWithin, node_in, width}
use Rattle.study_marks.specs.declared.node_label.NodeLabel.{NodeLabel}
use Rattle.study_marks.specs.Edits.{first_illegal_from, first_path}
use Rattle.study_marks.specs.Study.{IsPlayable}
use Rattle.study_marks.specs.FaultSums.{siblings_from}

siblings_from-all : {L : Type 0} (k : ℕ) (f : Forest L) → width f ≤ k → siblings_from k f ≡ none
siblings_from-all zero none h = refl
siblings_from-all zero (more m l b r) h = absurd (omega arith)
siblings_from-all (suc k) none h = refl
siblings_from-all (suc k) (more m l b r) h = siblings_from-all k r (omega arith)

-- the nodes from the one at place k on
siblings_from-nth : (f : Forest NodeLabel) (k : ℕ) (t : Twig NodeLabel) → node_in f k [] ≡ Some t → siblings_from k f
    ≡ more t.played t.label t.below (siblings_from (suc k) f)
siblings_from-nth none k t e = let no : ⊥ = cc in absurd no
siblings_from-nth (more m l b r) zero t e =
    ap (λ (u : Twig NodeLabel). more u.played u.label u.below r) (let s : record { played = m; label = l; below = b }
    ≡ t = cc in s)
siblings_from-nth (more m l b r) (suc k) t e = siblings_from-nth r k t e

-- all nodes before place k are legal, with all nodes below them
abbrev pub IsWhole : Position → Forest NodeLabel → ℕ → Type 0
IsWhole p f k = first_illegal_from 0 p f ≡ first_illegal_from k p (siblings_from k f)

-- there is no node at place k
pub no-child : {L : Type 0} (f : Forest L) (k : ℕ) → k < width f → node_in f k [] ≡ None → ⊥
no-child none k h e = omega (arith, h)
no-child (more m l b r) zero h e = let no : ⊥ = cc in no
no-child (more m l b r) (suc k) h e = no-child r k (omega (arith, h)) e

pub within-child : (n : ℕ) (f : Forest NodeLabel) (k : ℕ) (t : Twig NodeLabel) → node_in f k [] ≡ Some t → IsWithin n f
    → (0 < n) × IsWithin (n - 1) t.below
within-child n none k t e h = let no : ⊥ = cc in absurd no
within-child zero (more m l b r) k t e h = absurd h
within-child (suc n) (more m l b r) zero t e h =
    let one : n ≡ suc n - 1 = omega arith in
    let same : record { played = m; label = l; below = b } ≡ t = cc in
    (omega arith, subst (λ i. IsWithin i t.below) one (subst (λ (u : Twig NodeLabel). IsWithin n u.below) same h.0))
within-child (suc n) (more m l b r) (suc k) t e h = within-child (suc n) r k t e h.1

pub fewer-below : (f : Forest NodeLabel) (k : ℕ) (t : Twig NodeLabel) → node_in f k [] ≡ Some t → nodes_in t.below < nodes_in f
fewer-below none k t e = let no : ⊥ = cc in absurd no
fewer-below (more m l b r) zero t e =
    let same : nodes_in b ≡ nodes_in t.below = ap (λ (u : Twig NodeLabel). nodes_in u.below) (let s : record { played = m; label = l; below = b } ≡ t = cc in
    s) in
    omega (arith, same)
fewer-below (more m l b r) (suc k) t e = omega (arith, fewer-below r k t e)

module _ (p : Position) (f : Forest NodeLabel) (k : ℕ) (t : Twig NodeLabel) (e : node_in f k [] ≡ Some t) (h : IsWhole p f k) where
  from-here : first_illegal_from 0 p f
      ≡ (if is_legal p t.played then first_path k (first_illegal_from 0 (after p t.played) t.below)
      (first_illegal_from (suc k) p (siblings_from (suc k) f)) else Some (k ∷ []))
  from-here = h ∙ ap (first_illegal_from k p) (siblings_from-nth f k t e)

  -- the move is not legal
  pub broken-here : is_legal p t.played ≡ false → first_illegal_from 0 p f ≡ Some (k ∷ [])
  broken-here foul = from-here
      ∙ ap (λ b. if b then first_path k (first_illegal_from 0 (after p t.played) t.below) (first_illegal_from (suc k) p (siblings_from (suc k) f)) else Some (k
      ∷ [])) foul

  -- one below it is not
  pub broken-below : (next : Position) (path : List ℕ) → is_legal p t.played ≡ true → next ≡ after p t.played → first_illegal_from 0 next t.below ≡ Some path
      → first_illegal_from 0 p f ≡ Some (k ∷ path)
  broken-below next path fair en under = from-here
      ∙ ap (λ b. if b then first_path k (first_illegal_from 0 (after p t.played) t.below) (first_illegal_from (suc k) p (siblings_from (suc k) f)) else Some (k
      ∷ [])) fair
      ∙ ap (λ o. first_path k o (first_illegal_from (suc k) p (siblings_from (suc k) f))) (ap (λ x. first_illegal_from 0 x t.below) (sym en) ∙ under)

  -- all are legal
  pub whole-next : (next : Position) → is_legal p t.played ≡ true → next ≡ after p t.played → first_illegal_from 0 next t.below ≡ None → IsWhole p f (k + 1)
  whole-next next fair en under = subst (IsWhole p f) (let z : suc k ≡ k + 1 = omega arith in z) (from-here
      ∙ ap (λ b. if b then first_path k (first_illegal_from 0 (after p t.played) t.below) (first_illegal_from (suc k) p (siblings_from (suc k) f)) else Some (k
      ∷ [])) fair
      ∙ ap (λ o. first_path k o (first_illegal_from (suc k) p (siblings_from (suc k) f))) (ap (λ x. first_illegal_from 0 x t.below) (sym en) ∙ under))

pub whole-all : (p : Position) (f : Forest NodeLabel) (k : ℕ) → width f ≤ k → IsWhole p f k → first_illegal_from 0 p f ≡ None
whole-all p f k all h = h ∙ ap (first_illegal_from k p) (siblings_from-all k f all)

-- in the terms of the loop
pub longer : (ks push path new : List ℕ) (k : ℕ) → push ≡ ks ++ k ∷ [] → new ≡ push ++ path → new ≡ ks ++ (k ∷ path)
longer ks push path new k e h = h ∙ ap (λ xs. xs ++ path) e ∙ append_assoc ks (k ∷ []) path

-- if no move is broken, all are legal
pub whole-playable : (k : ℕ) (p : Position) (f : Forest NodeLabel) → first_illegal_from k p f ≡ None → IsPlayable p f
whole-playable k p none h = tt
whole-playable k p (more m l b r) h = go (is_legal p m) refl h (λ eb. whole-playable 0 (after p m) b eb) (λ er. whole-playable (suc k) p r er)
  where
    under : is_legal p m ≡ true → (o : Option (List ℕ)) → first_illegal_from 0 (after p m) b ≡ o → first_path k o (first_illegal_from (suc k) p r) ≡ None
        → (first_illegal_from 0 (after p m) b ≡ None → IsPlayable (after p m) b) → (first_illegal_from (suc k) p r ≡ None → IsPlayable p r)
        → IsPlayable p (more m l b r)
    under e None eb h first later = (e, first eb, later h)
    under e (Some path) eb h first later = let no : ⊥ = cc in absurd no

    go : (c : Bool) → is_legal p m ≡ c → (if c then first_path k (first_illegal_from 0 (after p m) b) (first_illegal_from (suc k) p r) else Some (k
        ∷ [])) ≡ None
        → (first_illegal_from 0 (after p m) b ≡ None → IsPlayable (after p m) b) → (first_illegal_from (suc k) p r ≡ None → IsPlayable p r)
        → IsPlayable p (more m l b r)
    go false e h first later = let no : ⊥ = cc in absurd no
    go true e h first later = under e (first_illegal_from 0 (after p m) b) refl h first later

-- Tails are sound and complete.
use Rattle.std.proofs.Common.{◌≡◌, ℕ, zero, suc, ◌+◌, Bool, true, false, cond, inl, inr, ◌⊎◌, List, [], ◌∷◌, ◌++◌, map}
use Rattle.std.proofs.Common.{Option, Some, None, refl, sym, ap, ◌∙◌, subst, arith}
use Rattle.std.proofs.lemmas.Bool.{false≢true}
use Rattle.std.specs.List.{Contains}
use Rattle.study_moves.proofs.AscendingKeys.{IsIn, IsIn-left, IsIn-right, Contains-from_in, IsIn-from_Contains}
use Rattle.study_tree.specs.Forest.{none, more}
use Rattle.study_wide.specs.Wide.{Wide}
use Rattle.study_wide.specs.Rules.{wide_after, is_small}
use Rattle.study_wide_text.specs.declared.start.WideStart.{WideStart}
use Rattle.study_wide_text.specs.StartAfter.{wide_start_after}
use Rattle.study_tails.specs.Study.{Moves, WideStudy, Node, node_from, node_at}
use Rattle.study_tails.specs.Tails.{tails_among, tails_from, tails}
use Rattle.study_tails.specs.Laws.{IsSmallNode, TailsAreComplete}

abbrev pub IsSmallAt : Option Node → Type 0
IsSmallAt None = ⊥
IsSmallAt (Some n) = is_small n.start.position ≡ true

in_either : (t : List ℕ) (xs ys : List (List ℕ)) → IsIn t (xs ++ ys) → IsIn t xs ⊎ IsIn t ys
in_either t [] ys i = inr i
in_either t (x ∷ xs) ys (inl s) = inl (inl s)
in_either t (x ∷ xs) ys (inr i) = elim (in_either t xs ys i) [ inl j ↦ inl (inr j) | inr j ↦ inr j ]

under : (k : ℕ) (t : List ℕ) (xs : List (List ℕ)) → IsIn t (map (λ p. k ∷ p) xs) → (p : List ℕ) × IsIn p xs × (k ∷ p ≡ t)
under k t [] i = absurd i
under k t (x ∷ xs) (inl s) = (x, inl refl, s)
under k t (x ∷ xs) (inr i) = let r = under k t xs i in (r.0, inr r.1, r.2)

put_under : (k : ℕ) (p : List ℕ) (xs : List (List ℕ)) → IsIn p xs → IsIn (k ∷ p) (map (λ p. k ∷ p) xs)
put_under k p [] i = absurd i
put_under k p (x ∷ xs) (inl s) = inl (ap (λ (z : List ℕ). k ∷ z) s)
put_under k p (x ∷ xs) (inr i) = inr (put_under k p xs i)

-- ---- sound

-- a tail among siblings from place k on
pub record IsTailAmong (s : WideStart) (k : ℕ) (f : Moves) (t : List ℕ) : Type 0 where
  pub place : ℕ
  pub rest : List ℕ
  pub path : (k + place) ∷ rest ≡ t
  pub small : IsSmallAt (node_from s f (place ∷ rest))

sound_among : (s : WideStart) (k : ℕ) (f : Moves) (t : List ℕ) → IsIn t (tails_among s.position k f) → IsTailAmong s k f t
unfolding wide_start_after
sound_among s k none t i = absurd i
sound_among s k (more m l b r) t i =
    let h = wide_start_after s m in
    let first : (u : Bool) → is_small h.position ≡ u → (p : List ℕ) → IsIn p (cond u ([] ∷ []) (tails_among h.position 0 b)) → IsSmallAt (node_from h b p) =
    λ u. elim u as (λ v. is_small h.position ≡ v → (p : List ℕ) → IsIn p (cond v ([] ∷ []) (tails_among h.position 0 b)) → IsSmallAt (node_from h b p)) [
      | true ↦ λ e p j. elim j [
        | inl s ↦ subst (λ (z : List ℕ). IsSmallAt (node_from h b z)) s e
        | inr n ↦ absurd n
      ]
      | false ↦ λ e p j. (let c = sound_among h 0 b p j in
          let zeroth : (0 + c.place) ∷ c.rest ≡ c.place ∷ c.rest = ap (λ (z : ℕ). z ∷ c.rest) (omega arith) in
          subst (λ (z : List ℕ). IsSmallAt (node_from h b z)) (sym zeroth ∙ c.path) c.small)
    ] in
    elim (in_either t (map (λ p. k ∷ p) (cond (is_small h.position) ([] ∷ []) (tails_among h.position 0 b))) (tails_among s.position (suc k) r) i) [
      | inl j ↦
          let u = under k t (cond (is_small h.position) ([] ∷ []) (tails_among h.position 0 b)) j in
          let zeroth : (k + 0) ∷ u.0 ≡ k ∷ u.0 = ap (λ (z : ℕ). z ∷ u.0) (omega arith) in
          record { place = 0; rest = u.0; path = zeroth ∙ u.2; small = first (is_small h.position) refl u.0 u.1 }
      | inr j ↦
          let c = sound_among s (suc k) r t j in
          let next : (k + suc c.place) ∷ c.rest ≡ (suc k + c.place) ∷ c.rest = ap (λ (z : ℕ). z ∷ c.rest) (omega arith) in
          record { place = suc c.place; rest = c.rest; path = next ∙ c.path; small = c.small }
    ]

small_from : (s : WideStart) (f : Moves) (t : List ℕ) → IsIn t (tails_from s.position f) → IsSmallAt (node_from s f t)
small_from s f t i = go (is_small s.position) refl i
  where
    go : (u : Bool) → is_small s.position ≡ u → IsIn t (cond u ([] ∷ []) (tails_among s.position 0 f)) → IsSmallAt (node_from s f t)
    go true e (inl same) = subst (λ (z : List ℕ). IsSmallAt (node_from s f z)) same e
    go true e (inr n) = absurd n
    go false e j =
        let c = sound_among s 0 f t j in
        let zeroth : (0 + c.place) ∷ c.rest ≡ c.place ∷ c.rest = ap (λ (z : ℕ). z ∷ c.rest) (omega arith) in
        subst (λ (z : List ℕ). IsSmallAt (node_from s f z)) (sym zeroth ∙ c.path) c.small

pub tails_small : (s : WideStudy) (t : List ℕ) → Contains (tails s) t → IsSmallNode s t
tails_small s t c = go (node_at s t) refl (small_from s.start s.tree.below t (IsIn-from_Contains t (tails s) c))
  where
    go : (o : Option Node) → node_at s t ≡ o → IsSmallAt o → IsSmallNode s t
    go None e h = absurd h
    go (Some n) e h = (n, e, h)

-- ---- complete

-- a tail on the way to a node
pub record IsOnTail (g : Wide) (k : ℕ) (f : Moves) (place : ℕ) (rest : List ℕ) : Type 0 where
  pub front : List ℕ
  pub behind : List ℕ
  pub tail : IsIn ((k + place) ∷ front) (tails_among g k f)
  pub path : rest ≡ front ++ behind

-- a tail below the node at place k, on the way to a node
abbrev Way : Wide → Moves → ℕ → List (List ℕ) → Bool → List ℕ → Type 0
Way h b k ys u rest = (t : List ℕ) × (q : List ℕ) × IsIn (k ∷ t) (map (λ p. k ∷ p) (cond u ([] ∷ []) (tails_among h 0 b)) ++ ys) × (rest ≡ t ++ q)

way : (s : WideStart) (b : Moves) (k : ℕ) (ys : List (List ℕ))
    → ((j : ℕ) (js : List ℕ) → IsSmallAt (node_from s b (j ∷ js)) → IsOnTail s.position 0 b j js)
    → (u : Bool) → is_small s.position ≡ u → (rest : List ℕ) → IsSmallAt (node_from s b rest) → Way s.position b k ys u rest
way s b k ys below true e rest small = ([], rest, IsIn-left (k ∷ []) (map (λ p. k ∷ p) ([] ∷ [])) ys (inl refl), refl)
way s b k ys below false e [] small = absurd (false≢true (sym e ∙ small))
way s b k ys below false e (j ∷ js) small =
    let c = below j js small in
    let zeroth : (0 + j) ∷ c.front ≡ j ∷ c.front = ap (λ (z : ℕ). z ∷ c.front) (omega arith) in
    let there = subst (λ (z : List ℕ). IsIn z (tails_among s.position 0 b)) zeroth c.tail in (
      j ∷ c.front,
      c.behind,
      IsIn-left (k ∷ (j ∷ c.front)) (map (λ p. k ∷ p) (tails_among s.position 0 b)) ys (put_under k (j ∷ c.front) (tails_among s.position 0 b) there),
      ap (λ (z : List ℕ). j ∷ z) c.path,
    )

complete_among : (s : WideStart) (k : ℕ) (f : Moves) (place : ℕ) (rest : List ℕ) → IsSmallAt (node_from s f (place ∷ rest))
    → IsOnTail s.position k f place rest
unfolding wide_start_after
complete_among s k none place rest h = absurd h
complete_among s k (more m l b r) zero rest h =
    let n = wide_start_after s m in
    let w = way n b k (tails_among s.position (suc k) r) (λ j js i. complete_among n 0 b j js i) (is_small n.position) refl rest h in
    let zeroth : k ∷ w.0 ≡ (k + 0) ∷ w.0 = ap (λ (z : ℕ). z ∷ w.0) (omega arith) in
    record { front = w.0; behind = w.1; tail = subst (λ (z : List ℕ). IsIn z (tails_among s.position k (more m l b r))) zeroth w.2; path = w.3 }
complete_among s k (more m l b r) (suc place) rest h =
    let c = complete_among s (suc k) r place rest h in
    let next : (suc k + place) ∷ c.front ≡ (k + suc place) ∷ c.front = ap (λ (z : ℕ). z ∷ c.front) (omega arith) in
    let g = wide_after s.position m in
    let i = IsIn-right ((suc k + place) ∷ c.front) (map (λ p. k ∷ p) (cond (is_small g) ([] ∷ []) (tails_among g 0 b)))
    (tails_among s.position (suc k) r) c.tail in
    record { front = c.front; behind = c.behind; tail = subst (λ (z : List ℕ). IsIn z (tails_among s.position k (more m l b r))) next i; path = c.path }

abbrev Found : WideStart → Moves → List ℕ → Bool → Type 0
Found s f p u = (t : List ℕ) × (q : List ℕ) × IsIn t (cond u ([] ∷ []) (tails_among s.position 0 f)) × (p ≡ t ++ q)

found_from : (s : WideStart) (f : Moves) (p : List ℕ) → IsSmallAt (node_from s f p) → Found s f p (is_small s.position)
found_from s f p h = go (is_small s.position) refl p h
  where
    go : (u : Bool) → is_small s.position ≡ u → (p : List ℕ) → IsSmallAt (node_from s f p) → Found s f p u
    go true e p h = ([], p, inl refl, refl)
    go false e [] h = absurd (false≢true (sym e ∙ h))
    go false e (j ∷ js) h =
        let c = complete_among s 0 f j js h in
        let zeroth : (0 + j) ∷ c.front ≡ j ∷ c.front = ap (λ (z : ℕ). z ∷ c.front) (omega arith) in
        (j ∷ c.front, c.behind, subst (λ (z : List ℕ). IsIn z (tails_among s.position 0 f)) zeroth c.tail, ap (λ (z : List ℕ). j ∷ z) c.path)

-- ---- one alone

same_head : (j k : ℕ) (xs ys : List ℕ) → j ∷ xs ≡ k ∷ ys → j ≡ k
same_head j k xs ys e = cc

same_rest : (j k : ℕ) (xs ys : List ℕ) → j ∷ xs ≡ k ∷ ys → xs ≡ ys
same_rest j k xs ys e = cc

-- of a tail below the node at place k, and one below a later sibling, only one is on a path
apart : (s : WideStart) (k : ℕ) (r : Moves) (t u p q : List ℕ) → IsIn u (tails_among s.position (suc k) r) → (k ∷ t) ++ p ≡ u ++ q → ⊥
apart s k r t u p q i e =
    let c = sound_among s (suc k) r u i in
    let same : k ≡ suc k + c.place = same_head k (suc k + c.place) (t ++ p) (c.rest ++ q) (e ∙ ap (λ (z : List ℕ). z ++ q) (sym c.path)) in
    omega (arith, same)

only_among : (s : WideStart) (k : ℕ) (f : Moves) (t u p q : List ℕ) → IsIn t (tails_among s.position k f) → IsIn u (tails_among s.position k f)
    → t ++ p ≡ u ++ q → t ≡ u
unfolding wide_start_after
only_among s k none t u p q i j e = absurd i
only_among s k (more m l b r) t u p q i j e =
    let h = wide_start_after s m in
    let these = cond (is_small h.position) ([] ∷ []) (tails_among h.position 0 b) in
    let first : (v : Bool) (x y : List ℕ) → IsIn x (cond v ([] ∷ []) (tails_among h.position 0 b)) → IsIn y (cond v ([] ∷ []) (tails_among h.position 0 b))
    → x ++ p ≡ y ++ q → x ≡ y =
    λ v. elim v as (λ v. (x y : List ℕ) → IsIn x (cond v ([] ∷ []) (tails_among h.position 0 b)) → IsIn y (cond v ([] ∷ []) (tails_among h.position 0 b))
    → x ++ p ≡ y ++ q → x ≡ y) [
      | true ↦ λ x y a c z. elim a [
        | inl ex ↦ elim c [ inl ey ↦ sym ex ∙ ey | inr n ↦ absurd n ]
        | inr n ↦ absurd n
      ]
      | false ↦ λ x y a c z. only_among h 0 b x y p q a c z
    ] in
    elim (in_either t (map (λ p. k ∷ p) these) (tails_among s.position (suc k) r) i) [
      | inl it ↦
          let x = under k t these it in
          elim (in_either u (map (λ p. k ∷ p) these) (tails_among s.position (suc k) r) j) [
            | inl ju ↦
                let y = under k u these ju in
                let both : k ∷ (x.0 ++ p) ≡ k ∷ (y.0 ++ q) =
                ap (λ (z : List ℕ). z ++ p) x.2 ∙ e ∙ ap (λ (z : List ℕ). z ++ q) (sym y.2) in
                sym x.2 ∙ ap (λ (z : List ℕ). k ∷ z) (first (is_small h.position) x.0 y.0 x.1 y.1 (same_rest k k (x.0 ++ p) (y.0 ++ q) both)) ∙ y.2
            | inr ju ↦ absurd (apart s k r x.0 u p q ju (ap (λ (z : List ℕ). z ++ p) x.2 ∙ e))
          ]
      | inr it ↦
          elim (in_either u (map (λ p. k ∷ p) these) (tails_among s.position (suc k) r) j) [
            | inl ju ↦ let y = under k u these ju in absurd (apart s k r y.0 t q p it (ap (λ (z : List ℕ). z ++ q) y.2 ∙ sym e))
            | inr ju ↦ only_among s (suc k) r t u p q it ju e
          ]
    ]

only_from : (s : WideStart) (f : Moves) (v : Bool) (t u p q : List ℕ) → IsIn t (cond v ([] ∷ []) (tails_among s.position 0 f))
    → IsIn u (cond v ([] ∷ []) (tails_among s.position 0 f)) → t ++ p ≡ u ++ q → t ≡ u
only_from s f true t u p q (inl x) (inl y) e = sym x ∙ y
only_from s f true t u p q (inl x) (inr n) e = absurd n
only_from s f true t u p q (inr n) j e = absurd n
only_from s f false t u p q i j e = only_among s 0 f t u p q i j e

pub tails_complete : (s : WideStudy) → TailsAreComplete s
tails_complete s path h =
    let small = subst (λ (o : Option Node). IsSmallAt o) (sym h.1) h.2 in
    let r = found_from s.start s.tree.below path small in
    record {
      tail = r.0;
      rest = r.1;
      listed = Contains-from_in r.0 (tails s) r.2;
      way = r.3;
      only = λ t q c e. only_from s.start s.tree.below (is_small s.start.position) t r.0 q r.1 (IsIn-from_Contains t (tails s) c) r.2 (sym e ∙ r.3);
    }

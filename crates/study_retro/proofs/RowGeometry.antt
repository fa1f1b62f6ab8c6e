-- The squares between two squares of a step.
use Rattle.std.proofs.Common.{◌≡◌, ℕ, ◌+◌, ◌<◌, ◌≤◌, ◌==◌, Bool, true, false, ◌&&◌, ◌||◌, ◌⊎◌, inl, inr, refl, sym, ◌∙◌, arith, nat_le, nat_lt}
use borrow.Author.Tests.{ltb-true}
use Rattle.std.proofs.lemmas.Bool.{and_from, and_parts, eq-eqb, eqb-true, false≢true, leb-true, lt-ltb, or_cases, or_right}
use Rattle.study_board.specs.declared.men.Side.{Side}
use Rattle.study_board.specs.declared.men.Side.TheVariants.{White, Black}
use Rattle.study_board.specs.Geometry.{distance_between, file_of, rank_of, files_apart, ranks_apart, is_between, king_step, knight_jump, on_bishop_line}
use Rattle.study_board.specs.Geometry.{strictly_between}
use Rattle.study_moves.specs.Rules.{half_way, is_ahead}
use Rattle.study_moves.proofs.BearsBothWays.{same_test}

-- j inside of i and k
abbrev IsInside : ℕ → ℕ → ℕ → Type 0
IsInside i j k = ((i < j) × (j < k)) ⊎ ((k < j) × (j < i))

inside : (i j k : ℕ) → is_between i j k ≡ true → IsInside i j k
inside i j k e =
    elim (or_cases (nat_lt i j && nat_lt j k) (nat_lt k j && nat_lt j i) e) [
      | inl h ↦ let p = and_parts (nat_lt i j) (nat_lt j k) h in inl (ltb-true i j p.0, ltb-true j k p.1)
      | inr h ↦ let p = and_parts (nat_lt k j) (nat_lt j i) h in inr (ltb-true k j p.0, ltb-true j i p.1)
    ]

-- y between a and x, of files f g h and ranks i j k: on a file, on a rank or on a diagonal
abbrev IsOnWay : ℕ → ℕ → ℕ → ℕ → ℕ → ℕ → Type 0
IsOnWay f g h i j k =
    ((distance_between f g ≡ 0) × (distance_between f h ≡ 0) × IsInside i j k)
    ⊎ (((distance_between i j ≡ 0) × (distance_between i k ≡ 0) × IsInside f g h)
    ⊎ ((distance_between f h ≡ distance_between i k) × IsInside f g h × IsInside i j k))

on_way : (a y x : ℕ) → strictly_between a y x ≡ true → IsOnWay (file_of a) (file_of y) (file_of x) (rank_of a) (rank_of y) (rank_of x)
unfolding strictly_between on_bishop_line
on_way a y x e =
    elim (or_cases _ _ e) [
      | inl r ↦ elim (or_cases _ _ r) [
        | inl h ↦
            let p = and_parts _ _ h in
            let q = and_parts _ _ p.0 in
            inl (eqb-true _ _ q.0, eqb-true _ _ q.1, inside _ _ _ p.1)
        | inr h ↦
            let p = and_parts _ _ h in
            let q = and_parts _ _ p.0 in
            inr (inl (eqb-true _ _ q.0, eqb-true _ _ q.1, inside _ _ _ p.1))
      ]
      | inr h ↦
          let p = and_parts _ _ h in
          let q = and_parts _ _ p.0 in
          let r = and_parts _ _ q.0 in
          inr (inr (eqb-true _ _ r.1, inside _ _ _ q.1, inside _ _ _ p.1))
    ]

none_if : (b : Bool) → (b ≡ true → ⊥) → b ≡ false
none_if true f = absurd (f refl)
none_if false f = refl

none_near : (f g h i j k : ℕ) → IsOnWay f g h i j k → distance_between f h ≤ 1 → distance_between i k ≤ 1 → ⊥
none_near f g h i j k (inl w) m n = elim w.2 [ inl p ↦ absurd (omega (arith, p.0, p.1, m, n)) | inr p ↦ absurd (omega (arith, p.0, p.1, m, n)) ]
none_near f g h i j k (inr (inl w)) m n = elim w.2 [ inl p ↦ absurd (omega (arith, p.0, p.1, m, n)) | inr p ↦ absurd (omega (arith, p.0, p.1, m, n)) ]
none_near f g h i j k (inr (inr w)) m n = elim w.2 [ inl p ↦ absurd (omega (arith, p.0, p.1, m, n)) | inr p ↦ absurd (omega (arith, p.0, p.1, m, n)) ]

none_askew : (f g h i j k : ℕ) → IsOnWay f g h i j k → (distance_between f h ≡ 0 → ⊥) → (distance_between i k ≡ 0 → ⊥)
    → (distance_between f h ≡ distance_between i k → ⊥) → ⊥
none_askew f g h i j k (inl w) l m n = l w.1
none_askew f g h i j k (inr (inl w)) l m n = m w.1
none_askew f g h i j k (inr (inr w)) l m n = n w.0

pub none_on_king_step : (a y x : ℕ) → king_step a x ≡ true → strictly_between a y x ≡ false
unfolding king_step
none_on_king_step a y x e =
    let p = and_parts (nat_le (files_apart a x) 1) (nat_le (ranks_apart a x) 1) e in
    none_if _ (λ s. none_near _ _ _ _ _ _ (on_way a y x s) (leb-true _ _ p.0) (leb-true _ _ p.1))

pub none_on_jump : (a y x : ℕ) → knight_jump a x ≡ true → strictly_between a y x ≡ false
unfolding knight_jump
none_on_jump a y x e = none_if _ (λ s. elim (or_cases _ _ e) [
  | inl h ↦
      let p = and_parts (files_apart a x == 1) (ranks_apart a x == 2) h in
      askew 1 2 s (eqb-true _ _ p.0) (eqb-true _ _ p.1) (λ k. absurd (omega arith)) (λ k. absurd (omega arith)) (λ k. absurd (omega arith))
  | inr h ↦
      let p = and_parts (files_apart a x == 2) (ranks_apart a x == 1) h in
      askew 2 1 s (eqb-true _ _ p.0) (eqb-true _ _ p.1) (λ k. absurd (omega arith)) (λ k. absurd (omega arith)) (λ k. absurd (omega arith))
])
  where
    askew : (m n : ℕ) → strictly_between a y x ≡ true → files_apart a x ≡ m → ranks_apart a x ≡ n
        → (m ≡ 0 → ⊥) → (n ≡ 0 → ⊥) → (m ≡ n → ⊥) → ⊥
    askew m n s p q u v w = none_askew _ _ _ _ _ _ (on_way a y x s) (λ k. u (sym p ∙ k)) (λ k. v (sym q ∙ k)) (λ k. w (sym p ∙ k ∙ q))

-- x is n ranks ahead of a, in the direction of some side's pawns
abbrev IsAhead : ℕ → ℕ → ℕ → Type 0
IsAhead n a x = (file_of x ≡ file_of a) × ((rank_of x ≡ rank_of a + n) ⊎ (rank_of x + n ≡ rank_of a))

ahead : (side : Side) (n a x : ℕ) → is_ahead side n a x ≡ true → IsAhead n a x
ahead White n a x e = let p = and_parts (file_of x == file_of a) (rank_of x == rank_of a + n) e in (eqb-true _ _ p.0, inl (eqb-true _ _ p.1))
ahead Black n a x e = let p = and_parts (file_of x == file_of a) (rank_of x + n == rank_of a) e in (eqb-true _ _ p.0, inr (eqb-true _ _ p.1))

pub none_on_step : (side : Side) (a y x : ℕ) → is_ahead side 1 a x ≡ true → strictly_between a y x ≡ false
none_on_step side a y x e =
    let h = ahead side 1 a x e in
    let f : files_apart a x ≤ 1 = omega (arith, h.0) in
    let r : ranks_apart a x ≤ 1 = elim h.1 [ inl k ↦ omega (arith, k) | inr k ↦ omega (arith, k) ] in
    none_if _ (λ s. none_near _ _ _ _ _ _ (on_way a y x s) f r)

middle : (f g h i j k : ℕ) → IsOnWay f g h i j k → h ≡ f → (k ≡ i + 2) ⊎ (k + 2 ≡ i) → (g ≡ f) × (j + j ≡ i + k)
middle f g h i j k (inl w) e (inl r) = elim w.2 [ inl p ↦ (omega (arith, w.0), omega (arith, p.0, p.1, r)) | inr p ↦ absurd (omega (arith, p.0, p.1, r)) ]
middle f g h i j k (inl w) e (inr r) = elim w.2 [ inl p ↦ absurd (omega (arith, p.0, p.1, r)) | inr p ↦ (omega (arith, w.0), omega (arith, p.0, p.1, r)) ]
middle f g h i j k (inr (inl w)) e r = elim w.2 [ inl p ↦ absurd (omega (arith, p.0, p.1, e)) | inr p ↦ absurd (omega (arith, p.0, p.1, e)) ]
middle f g h i j k (inr (inr w)) e r = elim w.1 [ inl p ↦ absurd (omega (arith, p.0, p.1, e)) | inr p ↦ absurd (omega (arith, p.0, p.1, e)) ]

pub one_on_double_step : (side : Side) (a y x : ℕ) → is_ahead side 2 a x ≡ true → strictly_between a y x ≡ (y == half_way a x)
unfolding strictly_between
one_on_double_step side a y x e = same_test _ _ to from
  where
    h : IsAhead 2 a x
    h = ahead side 2 a x e

    to : strictly_between a y x ≡ true → (y == half_way a x) ≡ true
    to s =
        let m = middle _ _ _ _ _ _ (on_way a y x s) h.0 h.1 in
        let t : y ≡ half_way a x = elim h.1 [ inl k ↦ omega (arith, m.0, m.1, h.0, k) | inr k ↦ omega (arith, m.0, m.1, h.0, k) ] in
        eq-eqb _ _ t

    from : (y == half_way a x) ≡ true → strictly_between a y x ≡ true
    from s =
        let t = eqb-true y (half_way a x) s in
        let f : files_apart a y ≡ 0 = elim h.1 [ inl k ↦ omega (arith, t, h.0, k) | inr k ↦ omega (arith, t, h.0, k) ] in
        let g : files_apart a x ≡ 0 = omega (arith, h.0) in
        let b : is_between (rank_of a) (rank_of y) (rank_of x) ≡ true = elim h.1 [
          | inl k ↦
              let u : rank_of a < rank_of y = omega (arith, t, h.0, k) in
              let v : rank_of y < rank_of x = omega (arith, t, h.0, k) in
              or_left _ _ (and_from _ _ (lt-ltb _ _ u) (lt-ltb _ _ v))
          | inr k ↦
              let u : rank_of x < rank_of y = omega (arith, t, h.0, k) in
              let v : rank_of y < rank_of a = omega (arith, t, h.0, k) in
              or_right _ _ (and_from _ _ (lt-ltb _ _ u) (lt-ltb _ _ v))
        ] in
        or_left _ _ (or_left _ _ (and_from _ _ (and_from _ _ (eq-eqb _ _ f) (eq-eqb _ _ g)) b))
      where
        or_left : (b c : Bool) → b ≡ true → (b || c) ≡ true
        or_left true c e = refl
        or_left false c e = absurd (false≢true e)

-- The numbers found one after the other: each number of the range of which P holds, in order.
use Rattle.std.proofs.Common.{◌≡◌, ℕ, ◌+◌, ◌<◌, ◌≤◌, zero, suc, Bool, true, false, List, [], ◌∷◌, length, inl, inr, ◌↔◌, ◌∙◌, arith, refl, sym, subst}
use Rattle.std.specs.Prelude.{nat_lt, slice_index_or}
use Rattle.std.specs.List.{All, AllPairs, Contains}
use Rattle.std.proofs.lemmas.List.Elements.{All-cons}
use Rattle.std.proofs.lemmas.List.Kept.{AllPairs-cons}
use Rattle.std.proofs.lemmas.Bool.{false≢true, ltb-true, ltb-false, cases_lt}
use Rattle.study_values.specs.Number.{cells_of}
use Rattle.study_index.proofs.ClassLaws.{below}
use Rattle.study_index.proofs.ComputedIndex.{decoded_of_numbered}
use Rattle.study_search.specs.Finding.{IsFound, AreFound}
use Rattle.study_search.specs.Laws.{NextFoundsAreAll}

pub none-more : (P : ℕ → Type 0) (a n : ℕ) (b : Bool) → ((k : ℕ) → a ≤ k → k < n → ¬ (P k)) → b ≡ false → ((b ≡ true) ↔ P n)
    → (k : ℕ) → a ≤ k → k < n + 1 → ¬ (P k)
none-more P a n b h e now k from l p = go (nat_lt k n) refl
  where
    go : (c : Bool) → nat_lt k n ≡ c → ⊥
    go true f = h k from (ltb-true k n f) p
    go false f =
        let least : n ≤ k = ltb-false k n f in
        let same : k ≡ n = omega (arith, least, l) in
        false≢true (sym e ∙ now.1 (subst P same p))

module _ (P : ℕ → Type 0) where
  pub in-range : (ns : List ℕ) (a b : ℕ) → AreFound P a b ns → (k i : ℕ) → i < length ns → slice_index_or ns i k ≡ k → (a ≤ k) × (k < b) × P k
  in-range [] a b h k i l e = absurd (omega (arith, l))
  in-range (n ∷ ns) a b h k zero l e = (subst (λ x. a ≤ x) e h.0.0, subst (λ x. x < b) e h.0.1, subst P e h.0.2)
  in-range (n ∷ ns) a b h k (suc i) l e =
      let less : i < length ns = omega (arith, l) in
      let r = in-range ns (n + 1) b h.1 k i less e in
      let from = h.0.0 in
      let low = r.0 in
      (omega (arith, from, low), r.1, r.2)

  pub there : (ns : List ℕ) (a b : ℕ) → AreFound P a b ns → (k : ℕ) → a ≤ k → k < b → P k → Contains ns k
  there [] a b h k from below p = absurd (h k from below p)
  there (n ∷ ns) a b h k from below p = elim (cases_lt k n) [
    | inl l ↦ absurd (h.0.3 k from l p)
    | inr g ↦ elim (cases_lt n k) [
      | inl l ↦
          let more : n + 1 ≤ k = omega (arith, l) in
          let c = there ns (n + 1) b h.1 k more below p in
          let long = c.1 in
          (suc c.0, (let z : suc c.0 < length (n ∷ ns) = omega (arith, long) in z), c.2)
      | inr f ↦
          let same : n ≡ k = omega (arith, g, f) in
          (0, (let z : 0 < length (n ∷ ns) = omega arith in z), same)
    ]
  ]

  above : (ns : List ℕ) (a b : ℕ) → AreFound P a b ns → All (λ x. a ≤ x) ns
  above [] a b h = λ k d long. absurd (omega (arith, long))
  above (n ∷ ns) a b h =
      let from = h.0.0 in
      All-cons (λ x. a ≤ x) n ns from (λ k d long. let low = above ns (n + 1) b h.1 k d long in omega (arith, from, low))

  pub ascend : (ns : List ℕ) (a b : ℕ) → AreFound P a b ns → AllPairs (λ x y. x < y) ns
  ascend [] a b h = λ i j d l long. absurd (omega (arith, long))
  ascend (n ∷ ns) a b h =
      AllPairs-cons (λ x y. x < y) n ns (λ k d long. let low = above ns (n + 1) b h.1 k d long in omega (arith, low)) (ascend ns (n + 1) b h.1)

pub all-found : NextFoundsAreAll
all-found s = record {
  range = λ a b ns h. (
    λ k. ((λ m. in-range (IsFound s) ns a b h k m.0 m.1 m.2), (λ r. there (IsFound s) ns a b h k r.0 r.1 r.2)),
    ascend (IsFound s) ns a b h,
  );
  class = λ ns h k. (
    (λ m. (in-range (IsFound s) ns 0 (cells_of s.class) h k m.0 m.1 m.2).2),
    (λ f.
        let low : 0 ≤ k = omega arith in
        there (IsFound s) ns 0 (cells_of s.class) h k low (below s.class k f.0 (decoded_of_numbered s.class k f.0 f.1)) f),
  );
}

-- The greatest distance of cells, one cell more at a time.
use Rattle.std.proofs.Common.{◌≡◌, ℕ, ◌+◌, ◌<◌, ◌≤◌, ◌⊎◌, inl, inr, max, List, length, slice_index, Option, Some, None, sym, ◌∙◌, subst, ap, arith}
use Rattle.study_values.specs.declared.value.Value.{Value}
use Rattle.study_values.specs.Cells.{value_of}
use Rattle.study_retro.specs.Report.{IsGreatest, option_max}

module _ (distance : Value → Option ℕ) (xs : List ℕ) where
  abbrev encodes : ℕ → Option ℕ
  encodes i = distance (value_of (slice_index xs i))

  -- a distance among the first cells
  pub record TellsBelow (i n : ℕ) : Type 0 where
    pub cell : ℕ
    pub inside : cell < i
    pub is : encodes cell ≡ Some n

  abbrev pub IsGreatestBelow : ℕ → Option ℕ → Type 0
  IsGreatestBelow i None = (n : ℕ) → TellsBelow i n → ⊥
  IsGreatestBelow i (Some n) = TellsBelow i n × ((m : ℕ) → TellsBelow i m → m ≤ n)

  pub IsGreatestBelow-none : IsGreatestBelow 0 None
  IsGreatestBelow-none n t = absurd (let l = t.inside in omega arith)

  last_or : (k i : ℕ) → k < i + 1 → (k < i) ⊎ (k ≡ i)
  last_or k i l = grind arith

  more : (i n : ℕ) → TellsBelow i n → TellsBelow (i + 1) n
  more i n t = let l = t.inside in record { cell = t.cell; inside = omega arith; is = t.is }

  -- a distance below one more is below, or there
  split : (i n : ℕ) → TellsBelow (i + 1) n → TellsBelow i n ⊎ (encodes i ≡ Some n)
  split i n t = elim (last_or t.cell i t.inside) [
    | inl l ↦ inl (record { cell = t.cell; inside = l; is = t.is })
    | inr e ↦ inr (subst (λ (k : ℕ). encodes k ≡ Some n) e t.is)
  ]

  same_some : (m n : ℕ) (o : Option ℕ) → o ≡ Some m → o ≡ Some n → n ≡ m
  same_some m n o e f = let s : Some m ≡ Some n = sym e ∙ f in let t : m ≡ n = cc in sym t

  by_one_more : (i : ℕ) (o d : Option ℕ) → encodes i ≡ d → IsGreatestBelow i o → IsGreatestBelow (i + 1) (option_max o d)
  by_one_more i None None e h = λ n t. elim (split i n t) [ inl u ↦ h n u | inr f ↦ absurd (let s : None ≡ Some n = sym e ∙ f in let no : ⊥ = cc in no) ]
  by_one_more i None (Some k) e h = (
    record { cell = i; inside = omega arith; is = e },
    λ m t. elim (split i m t) [ inl u ↦ absurd (h m u) | inr f ↦ let s = same_some k m (encodes i) e f in omega arith ],
  )
  by_one_more i (Some n) None e h = (
    more i n h.0,
    λ m t. elim (split i m t) [ inl u ↦ h.1 m u | inr f ↦ absurd (let s : None ≡ Some m = sym e ∙ f in let no : ⊥ = cc in no) ],
  )
  by_one_more i (Some n) (Some k) e h = (
    elim (less_or n k) [
      | inl l ↦ let top : k ≡ max n k = omega arith in subst (λ (x : ℕ). TellsBelow (i + 1) x) top (record { cell = i; inside = omega arith; is = e })
      | inr l ↦ let top : n ≡ max n k = omega arith in subst (λ (x : ℕ). TellsBelow (i + 1) x) top (more i n h.0)
    ],
    λ m t. elim (split i m t) [ inl u ↦ let b = h.1 m u in omega arith | inr f ↦ let s = same_some k m (encodes i) e f in omega arith ],
  )
    where
      less_or : (a b : ℕ) → (a ≤ b) ⊎ (b ≤ a)
      less_or a b = grind arith

  pub IsGreatestBelow-more : (i : ℕ) (o p : Option ℕ) (v : Value) → v ≡ value_of (slice_index xs i)
      → p ≡ option_max o (distance v) → IsGreatestBelow i o → IsGreatestBelow (i + 1) p
  IsGreatestBelow-more i o p v e f h = subst (λ (q : Option ℕ). IsGreatestBelow (i + 1) q) (sym f) (by_one_more i o (distance v) (ap distance (sym e)) h)

  pub IsGreatest-below : (i : ℕ) (o : Option ℕ) → length xs ≡ i → IsGreatestBelow i o → IsGreatest distance xs o
  IsGreatest-below i None e h = λ n t. h n (record { cell = t.cell; inside = (let l = t.inside in omega arith); is = t.is })
  IsGreatest-below i (Some n) e h = (
    record { cell = h.0.cell; inside = (let l = h.0.inside in omega arith); is = h.0.is },
    λ m t. h.1 m (record { cell = t.cell; inside = (let l = t.inside in omega arith); is = t.is }),
  )

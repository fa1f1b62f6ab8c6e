-- Rows that are looked at, and those that are not.
use Rattle.std.proofs.Common.{◌≡◌, ℕ, ◌+◌, ◌*◌, ◌/◌, ◌<◌, ◌≤◌, ◌⊎◌, List, length, slice_index, slice_set, inl, inr, arith, sym, subst}
use Rattle.std.proofs.lemmas.List.{get_or_past, get_or-set_same, get_or-set_other}
use Rattle.study_levels.specs.Due.{AreInRows, AreDue}
use Rattle.study_levels.proofs.BlockLemmas.{below_or}

-- two numbers are the same, or not
same_or : (a b : ℕ) → (a ≡ b) ⊎ ((a ≡ b) → ⊥)
same_or a b = elim (below_or a b) [
  | inl l ↦ inr (λ e. omega (arith, l, e))
  | inr g ↦ elim (below_or b a) [
    | inl l ↦ inr (λ e. omega (arith, l, e))
    | inr h ↦ inl (omega (arith, g, h))
  ]
]

-- a row that was looked at is due when the least of its cells above the next level is
pub looked_at : (level looked new row least : ℕ) (cells due : List ℕ) → AreInRows level looked cells due → 64 * row < length cells → looked ≤ new
    → row + 1 ≤ new
    → ((i : ℕ) → 64 * row ≤ i → i < 64 * row + 64 → i < length cells → level + 1 < slice_index cells i → least < slice_index cells i)
    → AreDue level new cells (slice_set due row least)
looked_at level looked new row least cells due old there more some above i come = elim (below_or i (length cells)) [
  | inr past ↦ absurd (let z : slice_index cells i ≡ 0 = get_or_past cells i 0 past in let c = come.0 in omega (arith, z, c))
  | inl low ↦ elim (same_or (i / 64) row) [
    | inl e ↦
        let rows = old.rows in
        let same : slice_index (slice_set due row least) (i / 64) ≡ least =
        subst (λ (r : ℕ). slice_index (slice_set due row least) r ≡ least) (sym e) (get_or-set_same due row least 0 (omega (arith, there, rows))) in
        subst (λ (x : ℕ). x < slice_index cells i) (sym same)
        (above i (omega (arith, e)) (omega (arith, e)) low (come.1 (omega (arith, e, some))))
    | inr out ↦
        subst (λ (x : ℕ). x < slice_index cells i) (sym (get_or-set_other due row (i / 64) least 0 out))
        (old.pending i (come.0, λ l. come.1 (omega (arith, l, more))))
  ]
]

-- a row from which on rows are looked at, up to the next one that is due, has no cell of this byte
pub none_due : (level looked from to byte : ℕ) (cells due : List ℕ) → AreInRows level looked cells due → level < byte
    → (from < looked → level + 1 < byte) → ((r : ℕ) → from ≤ r → r < to → byte ≤ slice_index due r)
    → (i : ℕ) → 64 * from ≤ i → i < 64 * to → slice_index cells i ≡ byte → ⊥
none_due level looked from to byte cells due old above next none i a b e =
    let late = none (i / 64) (omega (arith, a)) (omega (arith, b)) in
    let due-by = old.pending i (
      subst (λ (x : ℕ). level < x) (sym e) above,
      λ l. subst (λ (x : ℕ). level + 1 < x) (sym e) (next (omega (arith, a, l))),
    ) in
    omega (arith, late, due-by, e)

-- if no row is due, no cell is above the level
pub none_to_come : (level looked k : ℕ) (cells due : List ℕ) → AreInRows level looked cells due → level ≤ k → (0 < looked → level + 1 ≤ k)
    → ((r : ℕ) → r < length due → 255 ≤ slice_index due r) → (i : ℕ) → slice_index cells i ≤ k
none_to_come level looked k cells due old above next none i = elim (below_or k (slice_index cells i)) [
  | inr low ↦ low
  | inl high ↦ elim (below_or i (length cells)) [
    | inr past ↦ absurd (let z : slice_index cells i ≡ 0 = get_or_past cells i 0 past in omega (arith, z, high))
    | inl low ↦
        let rows = old.rows in
        let late = none (i / 64) (omega (arith, low, rows)) in
        let due-by = old.pending i (omega (arith, above, high), λ l. (let n = next (omega (arith, l)) in omega (arith, n, high))) in
        let byte = old.bytes i in
        absurd (omega (arith, late, due-by, byte))
  ]
]

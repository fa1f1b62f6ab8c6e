-- Facts of a part of the cells are facts of the cells.
use Rattle.std.proofs.Common.{◌≡◌, ℕ, ◌+◌, ◌-◌, ◌*◌, ◌/◌, ◌<◌, ◌≤◌, List, length, slice_index, Bool, true, false, nat_lt, ◌⊎◌, inl, inr}
use Rattle.std.proofs.Common.{take, drop, arith, refl, ◌∙◌, subst}
use Rattle.std.proofs.lemmas.Bool.Decides.{nat_tests}
use Rattle.std.proofs.lemmas.List.{get_or-drop, get_or-take, length-take-le, length-drop}

-- a property of each cell of a part holds for the cells there
pub in_part : (xs : List ℕ) (Q : ℕ → Type 0) (at end i : ℕ) → at ≤ i → i < end → end ≤ length xs
    → ((j : ℕ) → j < length (take (end - at) (drop at xs)) → Q (slice_index (take (end - at) (drop at xs)) j))
    → Q (slice_index xs i)
in_part xs Q at end i a b e h =
    let d = length-drop at xs in
    let l = length-take-le (end - at) (drop at xs) (omega (arith, d)) in
    let same : at + (i - at) ≡ i = omega arith in
    subst (λ (k : ℕ). Q (slice_index xs k)) same
    (subst Q (get_or-take (end - at) (drop at xs) (i - at) 0 (omega arith) ∙ get_or-drop at xs (i - at) 0) (h (i - at) (omega (arith, l))))

-- a number is below another, or not
pub below_or : (i n : ℕ) → (i < n) ⊎ (n ≤ i)
below_or i n = by_test (nat_lt i n) refl
  where
    by_test : (b : Bool) → nat_lt i n ≡ b → (i < n) ⊎ (n ≤ i)
    by_test true e = inl (grind (arith, nat_tests))
    by_test false e = inr (grind (arith, nat_tests))

-- a property that holds before the row of a number, in that row up to its end, and from there to another number holds below the other
pub below_row : (Q : ℕ → Type 0) (n e m : ℕ) → ((i : ℕ) → i < 64 * (n / 64) → Q i)
    → ((y : ℕ) → y < 64 → 64 * (n / 64) + y < e → Q (64 * (n / 64) + y)) → e ≤ 64 * (n / 64) + 64
    → ((i : ℕ) → e ≤ i → i < m → Q i) → (i : ℕ) → i < m → Q i
below_row Q n e m before row few after i b = elim (below_or i (64 * (n / 64))) [
  | inl l ↦ before i l
  | inr g ↦ elim (below_or i e) [
    | inr h ↦ after i h b
    | inl l ↦
        let same : 64 * (n / 64) + (i - 64 * (n / 64)) ≡ i = omega (arith, g) in
        subst Q same (row (i - 64 * (n / 64)) (omega (arith, l, few, g)) (omega (arith, same, l)))
  ]
]

-- a property that holds in the rows before one, in that row, and in those from the next one to another holds before the other
pub below_rows : (Q : ℕ → Type 0) (r m : ℕ) → ((i : ℕ) → i < 64 * r → Q i) → ((y : ℕ) → y < 64 → Q (64 * r + y))
    → ((i : ℕ) → 64 * (r + 1) ≤ i → i < 64 * m → Q i) → (i : ℕ) → i < 64 * m → Q i
below_rows Q r m before row after i b = elim (below_or i (64 * r)) [
  | inl l ↦ before i l
  | inr g ↦ elim (below_or i (64 * (r + 1))) [
    | inr h ↦ after i h b
    | inl l ↦ subst Q (let same : 64 * r + (i - 64 * r) ≡ i = omega arith in same) (row (i - 64 * r) (omega arith))
  ]
]

-- A win takes an odd number of plies and a loss an even one, so a cell's byte encodes which it is.
use Rattle.std.proofs.Common.{◌≡◌, ◌≢◌, ℕ, zero, suc, ◌-◌, ◌*◌, ◌%◌, ◌≤◌, ◌⊎◌, inl, inr, arith, ap, subst, refl, sym}
use Rattle.std.proofs.lemmas.Bool.Decides.{nat_tests}
use Rattle.study_values.specs.declared.value.Value.TheVariants.{Draw}
use Rattle.study_table.specs.Forced.{Mated, Mates, IsWin, IsLoss}
use Rattle.study_values.specs.Cells.{distance_of, value_of}

double : ℕ → ℕ
double zero = zero
double (suc n) = suc (suc (double n))

double_is : (n : ℕ) → double n ≡ 2 * n
unfolding double
double_is zero = refl
double_is (suc n) = let h = double_is n in omega arith

even_or_odd : (n : ℕ) → ((j : ℕ) × (n ≡ double j)) ⊎ ((j : ℕ) × (n ≡ suc (double j)))
unfolding double
even_or_odd zero = inl (zero, refl)
even_or_odd (suc n) = elim (even_or_odd n) [ inl h ↦ inr (h.0, ap (λ (m : ℕ). suc m) h.1) | inr h ↦ inl (suc h.0, ap (λ (m : ℕ). suc m) h.1) ]

module _ {P : Type 0} (leads : P → P → Type 0) (mate : P → Type 0) where
  -- the mated side does not last an odd number of plies
  drop-Mated : (j : ℕ) (p : P) → Mated leads mate p (suc (double j)) → Mated leads mate p (double j)
  unfolding double
  drop-Mated zero p (inl h) = h
  drop-Mated zero p (inr h) = absurd (h.1 h.0.0 h.0.1)
  drop-Mated (suc j) p (inl h) = inl h
  drop-Mated (suc j) p (inr h) = inr (h.0, λ q l. let x = h.1 q l in (x.0, x.1, drop-Mated j x.0 x.2))

  drop-Mates : (j : ℕ) (p : P) → Mates leads mate p (suc (suc (double j))) → Mates leads mate p (suc (double j))
  unfolding double
  drop-Mates j p h = (h.0, h.1, drop-Mated j h.0 h.2)

  -- the mated side does not last an odd number of plies
  pub Mated-odd : (k : ℕ) (p : P) → k % 2 ≡ 0 → Mated leads mate p (suc k) → Mated leads mate p k
  Mated-odd k p e h = elim (even_or_odd k) [
    | inl d ↦ subst (Mated leads mate p) (sym d.1) (drop-Mated d.0 p (subst (λ (n : ℕ). Mated leads mate p (suc n)) d.1 h))
    | inr d ↦ absurd (let t = double_is d.0 in let is : k ≡ suc (double d.0) = d.1 in omega arith)
  ]

  -- nor does the mating side need an even number
  pub Mates-even : (k : ℕ) (p : P) → k % 2 ≡ 1 → Mates leads mate p (suc k) → Mates leads mate p k
  Mates-even k p e h = elim (even_or_odd k) [
    | inl d ↦ absurd (let t = double_is d.0 in let is : k ≡ double d.0 = d.1 in omega arith)
    | inr d ↦ subst (Mates leads mate p) (sym d.1) (drop-Mates d.0 p (subst (λ (n : ℕ). Mates leads mate p (suc n)) d.1 h))
  ]

  even-not_win : (j : ℕ) (p : P) → IsWin leads mate p (double j) → ⊥
  unfolding double
  even-not_win zero p h = h.forced
  even-not_win (suc j) p h =
      let x = h.forced in
      let y : Mates leads mate p (suc (double j)) = (x.0, x.1, drop-Mated j x.0 x.2) in
      let le : suc (suc (double j)) ≤ suc (double j) = h.least (suc (double j)) y in omega arith

  odd-not_loss : (j : ℕ) (p : P) → IsLoss leads mate p (suc (double j)) → ⊥
  odd-not_loss j p h = let le : suc (double j) ≤ double j = h.least (double j) (drop-Mated j p h.forced) in omega arith

  pub odd-win : (n : ℕ) (p : P) → IsWin leads mate p n → n % 2 ≡ 1
  odd-win n p h = elim (even_or_odd n) [
    | inl e ↦ absurd (even-not_win e.0 p (subst (IsWin leads mate p) e.1 h))
    | inr e ↦ let d = double_is e.0 in let is : n ≡ suc (double e.0) = e.1 in omega arith
  ]

  pub even-loss : (n : ℕ) (p : P) → IsLoss leads mate p n → n % 2 ≡ 0
  even-loss n p h = elim (even_or_odd n) [
    | inl e ↦ let d = double_is e.0 in let is : n ≡ double e.0 = e.1 in omega arith
    | inr e ↦ absurd (odd-not_loss e.0 p (subst (IsLoss leads mate p) e.1 h))
  ]

-- a cell other than 0 encodes a mate, in one ply less than its number
pub value_of-not_draw : (c : ℕ) → c ≢ 0 → value_of c ≢ Draw
value_of-not_draw c h = grind (arith, nat_tests)

pub distance_of-value_of : (c : ℕ) → c ≢ 0 → distance_of (value_of c) ≡ c - 1
distance_of-value_of c h = grind (arith, nat_tests)

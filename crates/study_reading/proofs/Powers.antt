-- Powers of ten.
use Rattle.std.proofs.Common.{◌≡◌, ℕ, zero, suc, ◌+◌, ◌^◌, ◌≤◌, sym, subst, inl, inr, arith}
use Rattle.std.proofs.lemmas.Bool.{cases_lt}
use Rattle.std.proofs.lemmas.Grind.{pow_more}

pow_up : (k i : ℕ) → i ≤ k → 10 ^ i ≤ 10 ^ k
pow_up zero i l = let e : i ≡ 0 = omega (arith, l) in subst (λ n. 10 ^ n ≤ 10 ^ 0) (sym e) (omega arith)
pow_up (suc k) i l = elim (cases_lt i (suc k)) [
  | inl less ↦
      let low : i ≤ k = omega (arith, less) in
      let h = pow_up k i low in
      let up : 10 ^ k ≤ 10 ^ (k + 1) = (let e = pow_more 10 k in omega (arith, e)) in
      omega (arith, h, up)
  | inr g ↦ (let e : i ≡ suc k = omega (arith, l, g) in subst (λ n. 10 ^ n ≤ 10 ^ suc k) (sym e) (omega arith))
]

pub eight_digits : (i : ℕ) → i ≤ 8 → 10 ^ i ≤ 100000000
eight_digits i l = pow_up 8 i l

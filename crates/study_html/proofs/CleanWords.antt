-- The HTML of words is clean.
use Rattle.std.proofs.Common.{◌≡◌, ℕ, ◌+◌, ◌/◌, ◌%◌, ◌<◌, ◌≤◌, List, [], ◌∷◌, ◌++◌, ap, inl, inr, refl, arith}
use Rattle.std.specs.Prelude.{codes, nat_lt, nat_le}
use Rattle.std.proofs.Common.{eqb}
use Rattle.std.proofs.lemmas.Bool.{cases_Bool, eqb-false, ltb-true, ltb-false, leb-true}
use Rattle.std.proofs.lemmas.List.{append-nil}
use Rattle.std.specs.List.{flat_map}
use Rattle.study_html.specs.Escape.{entity, escaped_text, lettered_byte, lettered_text, visible_byte, hex_digit, IsClean, IsPlainByte, IsLettered, BeginsEntity}

-- a byte other than these
other : (b : ℕ) (xs : List ℕ) → 32 ≤ b → b ≤ 126 → (b ≡ 60 → ⊥) → (b ≡ 62 → ⊥) → (b ≡ 34 → ⊥) → (b ≡ 39 → ⊥) → (b ≡ 38 → ⊥)
    → IsClean xs → IsClean (b ∷ xs)
other b xs lo hi lt gt quote mark amp h =
    (record { printed = lo; ascii = hi; less = lt; greater = gt; quote = quote; apostrophe = mark }, (λ e. absurd (amp e)), h)

letter : (b : ℕ) (xs : List ℕ) → 63 ≤ b → b ≤ 126 → IsClean xs → IsClean (b ∷ xs)
letter b xs few most h =
    other b xs (omega (arith, few)) most (λ e. omega (arith, e, few)) (λ e. omega (arith, e, few)) (λ e. omega (arith, e, few))
    (λ e. omega (arith, e, few)) (λ e. omega (arith, e, few)) h

digit : (b : ℕ) (xs : List ℕ) → 48 ≤ b → b ≤ 59 → IsClean xs → IsClean (b ∷ xs)
digit b xs few most h =
    other b xs (omega (arith, few)) (omega (arith, most)) (λ e. omega (arith, e, most)) (λ e. omega (arith, e, most)) (λ e. omega (arith, e, few))
    (λ e. omega (arith, e, few)) (λ e. omega (arith, e, few)) h

hash : (xs : List ℕ) → IsClean xs → IsClean (35 ∷ xs)
hash xs h =
    other 35 xs (omega arith) (omega arith) (λ e. omega (arith, e)) (λ e. omega (arith, e)) (λ e. omega (arith, e))
    (λ e. omega (arith, e)) (λ e. omega (arith, e)) h

plain-amp : IsPlainByte 38
plain-amp = record {
  printed = omega arith;
  ascii = omega arith;
  less = λ e. omega (arith, e);
  greater = λ e. omega (arith, e);
  quote = λ e. omega (arith, e);
  apostrophe = λ e. omega (arith, e);
}

amp : (xs : List ℕ) → IsClean xs → IsClean (codes "&amp;" ++ xs)
amp xs h = (
  plain-amp,
  (λ e. (xs, inl refl)),
  letter 97 _ (omega arith) (omega arith)
      (letter 109 _ (omega arith) (omega arith) (letter 112 _ (omega arith) (omega arith) (digit 59 _ (omega arith) (omega arith) h))),
)

lt : (xs : List ℕ) → IsClean xs → IsClean (codes "&lt;" ++ xs)
lt xs h = (
  plain-amp,
  (λ e. (xs, inr (inl refl))),
  letter 108 _ (omega arith) (omega arith) (letter 116 _ (omega arith) (omega arith) (digit 59 _ (omega arith) (omega arith) h)),
)

gt : (xs : List ℕ) → IsClean xs → IsClean (codes "&gt;" ++ xs)
gt xs h = (
  plain-amp,
  (λ e. (xs, inr (inr (inl refl)))),
  letter 103 _ (omega arith) (omega arith) (letter 116 _ (omega arith) (omega arith) (digit 59 _ (omega arith) (omega arith) h)),
)

quot : (xs : List ℕ) → IsClean xs → IsClean (codes "&quot;" ++ xs)
quot xs h = (
  plain-amp,
  (λ e. (xs, inr (inr (inr (inl refl))))),
  letter 113 _ (omega arith) (omega arith) (letter 117 _ (omega arith) (omega arith)
      (letter 111 _ (omega arith) (omega arith) (letter 116 _ (omega arith) (omega arith) (digit 59 _ (omega arith) (omega arith) h)))),
)

apostrophe : (xs : List ℕ) → IsClean xs → IsClean (codes "&#39;" ++ xs)
apostrophe xs h = (
  plain-amp,
  (λ e. (xs, inr (inr (inr (inr refl))))),
  hash _ (digit 51 _ (omega arith) (omega arith) (digit 57 _ (omega arith) (omega arith) (digit 59 _ (omega arith) (omega arith) h))),
)

-- a hexadecimal digit
hex : (d : ℕ) (xs : List ℕ) → d < 16 → IsClean xs → IsClean (hex_digit d ∷ xs)
hex d xs few h = elim (cases_Bool (nat_lt d 10)) [
  | inl a ↦ rw a (digit (48 + d) xs (omega arith) (omega (arith, ltb-true d 10 a)) h)
  | inr na ↦ rw na (letter (55 + d) xs (omega (arith, ltb-false d 10 na)) (omega (arith, few)) h)
]

-- a byte that is not printable
numbered : (b : ℕ) (xs : List ℕ) → IsClean xs → IsClean (92 ∷ 120 ∷ hex_digit (b / 16 % 16) ∷ hex_digit (b % 16) ∷ xs)
numbered b xs h =
    letter 92 _ (omega arith) (omega arith) (letter 120 _ (omega arith) (omega arith)
    (hex (b / 16 % 16) _ (omega arith) (hex (b % 16) xs (omega arith) h)))

visible_byte-clean : (b : ℕ) (xs : List ℕ) → (b ≡ 60 → ⊥) → (b ≡ 62 → ⊥) → (b ≡ 34 → ⊥) → (b ≡ 39 → ⊥) → (b ≡ 38 → ⊥)
    → IsClean xs → IsClean (visible_byte b ++ xs)
visible_byte-clean b xs lt gt quote mark amp h = elim (cases_Bool (nat_lt b 32)) [
  | inl low ↦ rw low (numbered b xs h)
  | inr nlow ↦ elim (cases_Bool (nat_lt 126 b)) [
    | inl high ↦ rw (nlow, high) (numbered b xs h)
    | inr nhigh ↦ rw (nlow, nhigh) (other b xs (omega (arith, ltb-false b 32 nlow)) (omega (arith, ltb-false 126 b nhigh)) lt gt quote mark amp h)
  ]
]

one : (b : ℕ) (xs : List ℕ) → IsClean xs → IsClean (entity b ++ xs)
one b xs h = elim (cases_Bool (eqb b 38)) [
  | inl a ↦ rw a (amp xs h)
  | inr na ↦ elim (cases_Bool (eqb b 60)) [
    | inl l ↦ rw (na, l) (lt xs h)
    | inr nl ↦ elim (cases_Bool (eqb b 62)) [
      | inl g ↦ rw (na, nl, g) (gt xs h)
      | inr ng ↦ elim (cases_Bool (eqb b 34)) [
        | inl q ↦ rw (na, nl, ng, q) (quot xs h)
        | inr nq ↦ elim (cases_Bool (eqb b 39)) [
          | inl m ↦ rw (na, nl, ng, nq, m) (apostrophe xs h)
          | inr nm ↦ rw (na, nl, ng, nq, nm)
              (visible_byte-clean b xs (eqb-false _ _ nl) (eqb-false _ _ ng) (eqb-false _ _ nq) (eqb-false _ _ nm) (eqb-false _ _ na) h)
        ]
      ]
    ]
  ]
]

clean-each : (text : List ℕ) → IsClean (flat_map entity text)
clean-each [] = tt
clean-each (b ∷ text) = one b (flat_map entity text) (clean-each text)

pub clean : (text : List ℕ) → IsClean (escaped_text text)
unfolding escaped_text
clean text = clean-each text

-- ---- words in their own letters

begins-more : (text more : List ℕ) → BeginsEntity text → BeginsEntity (text ++ more)
begins-more text more (rest, inl e) = (rest ++ more, inl (ap (λ (t : List ℕ). t ++ more) e))
begins-more text more (rest, inr (inl e)) = (rest ++ more, inr (inl (ap (λ (t : List ℕ). t ++ more) e)))
begins-more text more (rest, inr (inr (inl e))) = (rest ++ more, inr (inr (inl (ap (λ (t : List ℕ). t ++ more) e))))
begins-more text more (rest, inr (inr (inr (inl e)))) = (rest ++ more, inr (inr (inr (inl (ap (λ (t : List ℕ). t ++ more) e)))))
begins-more text more (rest, inr (inr (inr (inr e)))) = (rest ++ more, inr (inr (inr (inr (ap (λ (t : List ℕ). t ++ more) e)))))

-- behind clean bytes
lettered-then : (a xs : List ℕ) → IsClean a → IsLettered xs → IsLettered (a ++ xs)
lettered-then [] xs h k = k
lettered-then (b ∷ bs) xs (plain, begins, more) k = (inr plain, (λ e. begins-more (b ∷ bs) xs (begins e)), lettered-then bs xs more k)

one-lettered : (b : ℕ) (xs : List ℕ) → IsLettered xs → IsLettered (lettered_byte b ++ xs)
one-lettered b xs h = elim (cases_Bool (nat_le 128 b)) [
  | inl high ↦ rw high (inl (leb-true 128 b high), (λ e. absurd (omega (arith, e, leb-true 128 b high))), h)
  | inr low ↦ rw low (lettered-then (entity b) xs (rw append-nil at (one b [] tt)) h)
]

lettered-each : (text : List ℕ) → IsLettered (flat_map lettered_byte text)
lettered-each [] = tt
lettered-each (b ∷ text) = one-lettered b (flat_map lettered_byte text) (lettered-each text)

pub lettered : (text : List ℕ) → IsLettered (lettered_text text)
unfolding lettered_text
lettered text = lettered-each text

-- Figurines and dashes, step by step.
use Rattle.std.proofs.Common.{◌≡◌, ℕ, ◌-◌, ◌<◌, ◌≤◌, true, false, List, [], ◌∷◌, length, take, drop, get_or, Option, Some, None, refl, sym, ap, ◌∙◌}
use Rattle.std.proofs.Common.{arith, inl, inr}
use Rattle.std.specs.Prelude.{◌&&◌, ◌||◌}
use Rattle.std.specs.Str.{bytes_eq}
use Rattle.std.proofs.lemmas.Bool.{cases_Bool, eq-eqb}
use Rattle.std.proofs.lemmas.List.{take_all}
use Rattle.study_games.specs.Symbols.{begins_figurine, has_figurine, has_letter, letter_of as letter_in, letter_at, with_letters}

one_more : (b : ℕ) (bs : List ℕ) → has_figurine (b ∷ bs) ≡ (begins_figurine (b ∷ bs) || has_figurine bs)
one_more b [] = refl
one_more b (c ∷ []) = refl
one_more b (c ∷ d ∷ bs) = refl

pub front_has : (text : List ℕ) → 1 ≤ length text → true ≡ begins_figurine text → true ≡ has_figurine text
front_has [] some e = absurd (omega (arith, some))
front_has (b ∷ bs) some e = rw (one_more b bs, ← e) refl

-- if the text does not begin with a figurine, one follows the first byte or there is none
pub behind_has : (text : List ℕ) → 1 ≤ length text → false ≡ begins_figurine text → has_figurine (take (length text - 1) (drop 1 text)) ≡ has_figurine text
behind_has [] some e = absurd (omega (arith, some))
behind_has (b ∷ bs) some e = ap has_figurine (take_all (length (b ∷ bs) - 1) bs (omega arith)) ∙ sym (rw (one_more b bs, ← e) refl)

pub few_have_none : (text : List ℕ) → length text < 1 → false ≡ has_figurine text
few_have_none [] h = refl
few_have_none (a ∷ bs) h = absurd (omega (arith, h))

-- a letter is read, and the rest is shorter
pub record Lettered (letter : ℕ) (behind text : List ℕ) : Type 0 where
  pub same : letter ∷ with_letters behind ≡ with_letters text
  pub less : length behind < length text

abbrev found : ℕ → List ℕ → Option (ℕ × List ℕ)
found b bs = Some (b, bs)

abbrev letter_of : Option (ℕ × List ℕ) → ℕ
letter_of None = 0
letter_of (Some x) = x.0

abbrev behind_of : Option (ℕ × List ℕ) → List ℕ
behind_of None = []
behind_of (Some x) = x.1

module _ (letter : ℕ) (behind : List ℕ) where
  lettered_by : (b : ℕ) (bs text : List ℕ) → found letter behind ≡ found b bs → b ∷ with_letters bs ≡ with_letters text → length bs < length text
      → Lettered letter behind text
  lettered_by b bs text e same less = rw (ap letter_of e, ap behind_of e) (record { same = same; less = less })

  pub letter_read : (text : List ℕ) → found letter behind ≡ letter_at text → Lettered letter behind text
  letter_read [] e = absurd (cc)
  letter_read (x ∷ []) e = lettered_by x [] (x ∷ []) e refl (omega arith)
  letter_read (x ∷ y ∷ []) e = lettered_by x (y ∷ []) (x ∷ y ∷ []) e refl (omega arith)
  letter_read (x ∷ y ∷ z ∷ zs) e =
      elim (cases_Bool (has_letter x y z)) [
        | inl is ↦ lettered_by (letter_in x y z) zs (x ∷ y ∷ z ∷ zs) (rw is at e) (rw is refl) (omega arith)
        | inr other ↦ lettered_by x (y ∷ z ∷ zs) (x ∷ y ∷ z ∷ zs) (rw other at e) (rw other refl) (omega arith)
      ]

  -- if it is the first of another text as well, the rest of both is compared
  pub letter_met : (text left : List ℕ) → found letter behind ≡ letter_at text → 1 ≤ length left → get_or left 0 0 ≡ letter
      → bytes_eq (with_letters behind) (take (length left - 1) (drop 1 left)) ≡ bytes_eq (with_letters text) left
  letter_met text [] e some is = absurd (omega (arith, some))
  letter_met text (x ∷ xs) e some is =
      ap (bytes_eq (with_letters behind)) (take_all (length (x ∷ xs) - 1) xs (omega arith))
      ∙ sym (ap (λ (t : List ℕ). bytes_eq t (x ∷ xs)) (sym (letter_read text e).same)
      ∙ ap (λ b. b && bytes_eq (with_letters behind) xs) (eq-eqb letter x (sym is)))

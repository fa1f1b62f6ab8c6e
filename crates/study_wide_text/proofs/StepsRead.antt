-- What a FEN text that is read gives: its steps, men on the board, and counts of at most four digits.
use Rattle.std.proofs.Common.{◌≡◌, ℕ, ◌+◌, ◌*◌, ◌^◌, ◌<◌, ◌≤◌, ◌==◌, Bool, true, false}
use Rattle.std.proofs.Common.{cond, ◌&&◌, leb, List, [], ◌∷◌, length, reverse, Option, Some}
use Rattle.std.proofs.Common.{None, refl, sym, ap, ◌∙◌, subst, arith, inl, inr}
use Rattle.std.specs.Prelude.{Result, Ok, Err}
use Rattle.std.specs.List.{All, flat_map, slice_split, list_all}
use Rattle.std.specs.Char.{digit_value}
use Rattle.std.specs.Str.Parse.{digits_value, AllDigits}
use Rattle.std.proofs.Common.{length-append}
use Rattle.std.proofs.lemmas.Bool.{and_parts, eqb-true, eqb-false, leb-true, cases_Bool}
use Rattle.std.proofs.lemmas.Int.Digits.{digits_value-lt}
use Rattle.std.proofs.lemmas.List.Concat.{length-flat_map, flat_map-cons}
use Rattle.std.proofs.lemmas.List.Elements.{All-nil, All-cons}
use Rattle.std.proofs.lemmas.List.Sorted.{sum_by-IsPermutation, IsPermutation-reverse}
use Rattle.study_board.specs.declared.men.Man.{Man}
use Rattle.study_notation.specs.declared.fault.FenFault.{FenFault}
use Rattle.study_notation.specs.declared.placement.Piece.{Piece}
use Rattle.study_notation.specs.Fen.{◌>>=◌, refuse, refuse_any, field_needed, is_rank, squares}
use Rattle.study_notation.specs.Fen.{men_from, placement}
use Rattle.study_notation.specs.Fen.{is_digit, count_of}
use Rattle.study_notation.proofs.PlacementParts.{rank_len}
use Rattle.study_notation.proofs.DigitCounts.{digit_is}

-- what a step and those behind it give
pub bind_then : {A B C : Type 0} (r : Result A FenFault) (f : A → Result B FenFault) (y : B) → (r >>= f) ≡ Ok y
    → ((x : A) → r ≡ Ok x → f x ≡ Ok y → C) → C
bind_then (Ok x) f y e then = then x refl e
bind_then (Err k) f y e then = absurd (let bad : ⊥ = cc in bad)

pub needed_ok : {A : Type 0} (o : Option A) (k : FenFault) (x : A) → field_needed o k ≡ Ok x → o ≡ Some x
needed_ok None k x e = absurd (let bad : ⊥ = cc in bad)
needed_ok (Some y) k x e = cc

pub refuse_ok : (b : Bool) (k : FenFault) (x : Unit {0}) → refuse b k ≡ Ok x → b ≡ false
refuse_ok true k x e = absurd (let bad : ⊥ = cc in bad)
refuse_ok false k x e = refl

pub refuse_any_ok : (o : Option FenFault) (x : Unit {0}) → refuse_any o ≡ Ok x → o ≡ None
refuse_any_ok None x e = refl
refuse_any_ok (Some k) x e = absurd (let bad : ⊥ = cc in bad)

-- the result, from that of a step and that of those behind it
pub after_needed : {A B : Type 0} (o : Option A) (k : FenFault) (f : A → Result B FenFault) (x : A) (y : Result B FenFault) → o ≡ Some x → f x ≡ y
    → (field_needed o k >>= f) ≡ y
after_needed o k f x y e h = rw e h

pub after_refuse : {B : Type 0} (b : Bool) (k : FenFault) (f : Unit {0} → Result B FenFault) (y : Result B FenFault) → b ≡ false → f tt ≡ y
    → (refuse b k >>= f) ≡ y
after_refuse b k f y e h = rw e h

pub after_refuse_any : {B : Type 0} (o : Option FenFault) (f : Unit {0} → Result B FenFault) (y : Result B FenFault) → o ≡ None → f tt ≡ y
    → (refuse_any o >>= f) ≡ y
after_refuse_any o f y e h = rw e h

-- ---- the men are on the board

ranks_length : (parts : List (List ℕ)) → list_all is_rank parts ≡ true → length (flat_map squares parts) ≡ 8 * length parts
ranks_length [] e = refl
ranks_length (part ∷ parts) e =
    let h = and_parts (is_rank part) (list_all is_rank parts) e in
    omega (
      arith,
      length-append (squares part) (flat_map squares parts),
      ap length (flat_map-cons squares part parts),
      rank_len part h.0,
      ranks_length parts h.1,
    )

length-reversed : (parts : List (List ℕ)) → length (flat_map squares (reverse parts)) ≡ length (flat_map squares parts)
length-reversed parts =
    length-flat_map squares (reverse parts) ∙ sum_by-IsPermutation (λ part. length (squares part)) parts
    (reverse parts) (IsPermutation-reverse parts) ∙ sym (length-flat_map squares parts)

All-men_from : (n : ℕ) (cells : List (Option Piece)) (end : ℕ) → n + length cells ≤ end → All (λ m. m.at < end) (men_from n cells)
All-men_from n [] end le = All-nil (λ m. m.at < end)
All-men_from n (None ∷ cells) end le = All-men_from (n + 1) cells end (omega arith)
All-men_from n (Some p ∷ cells) end le =
    All-cons (λ m. m.at < end) (record { side = p.side; kind = p.kind; at = n }) (men_from (n + 1) cells)
    (omega arith) (All-men_from (n + 1) cells end (omega arith))

pub where_true : {A : Type 0} (b : Bool) (x y : A) → cond b (Some x) None ≡ Some y → (b ≡ true) × (x ≡ y)
where_true true x y e = (refl, cc)
where_true false x y e = absurd (let bad : ⊥ = cc in bad)

pub on_board : (text : List ℕ) (men : List Man) → placement text ≡ Some men → All (λ m. m.at < 64) men
unfolding placement
on_board text men e =
    let parts = slice_split (λ b. b == 47) text in
    let made = where_true (length parts == 8 && list_all is_rank parts) (men_from 0 (flat_map squares (reverse parts))) men e in
    let tests = and_parts (length parts == 8) (list_all is_rank parts) made.0 in
    let eight = eqb-true (length parts) 8 tests.0 in
    subst (λ (ms : List Man). All (λ m. m.at < 64) ms) made.1
    (All-men_from 0 (flat_map squares (reverse parts)) 64 (omega (arith, length-reversed parts, ranks_length parts tests.1, eight)))

-- ---- the counts

digit_low : (c : ℕ) → is_digit c ≡ true → digit_value c < 10
digit_low c e =
    let t = and_parts (leb 48 c) (leb c 57) e in
    let low = leb-true 48 c t.0 in
    let high = leb-true c 57 t.1 in
    omega (arith, digit_is c low high)

digits_low : (ds : List ℕ) → list_all is_digit ds ≡ true → AllDigits 10 ds
digits_low [] e = tt
digits_low (c ∷ ds) e = let t = and_parts (is_digit c) (list_all is_digit ds) e in (digit_low c t.0, digits_low ds t.1)

four_digits : (ds : List ℕ) → length ds ≤ 4 → 10 ^ length ds ≤ 10000
four_digits [] le = omega arith
four_digits (a ∷ []) le = omega arith
four_digits (a ∷ b ∷ []) le = omega arith
four_digits (a ∷ b ∷ c ∷ []) le = omega arith
four_digits (a ∷ b ∷ c ∷ d ∷ []) le = omega arith
four_digits (a ∷ b ∷ c ∷ d ∷ e ∷ ds) le = absurd (omega arith)

pub count_low : (ds : List ℕ) (n : ℕ) → count_of ds ≡ Some n → n ≤ 9999
unfolding count_of
count_low ds n e =
    let made = where_true ((leb 1 (length ds) && leb (length ds) 4) && list_all is_digit ds) (digits_value 10 ds) n e in
    let tests = and_parts (leb 1 (length ds) && leb (length ds) 4) (list_all is_digit ds) made.0 in
    let short = leb-true (length ds) 4 (and_parts (leb 1 (length ds)) (leb (length ds) 4) tests.0).1 in
    omega (arith, made.1, digits_value-lt 10 ds (digits_low ds tests.1), four_digits ds short)

pub one_or_more : (n : ℕ) → n ≤ 9999 → (1 ≤ cond (n == 0) 1 n) × (cond (n == 0) 1 n ≤ 9999)
one_or_more n le = elim (cases_Bool (n == 0)) [
  | inl hit ↦ rw hit (omega arith, omega arith)
  | inr miss ↦ rw miss (let ne = eqb-false n 0 miss in omega arith, le)
]

-- Reading a text that begins with a whole token.
use Rattle.std.proofs.Common.{◌≡◌, ℕ, suc, ◌+◌, ◌<◌, ◌≤◌, Bool, true, false, List, [], ◌∷◌, ◌++◌, length, take, drop, Some, Ok, refl, sym, ap, ◌∙◌}
use Rattle.std.proofs.Common.{arith, ◌⊎◌, inl, inr}
use Rattle.std.specs.Prelude.{◌&&◌, ◌||◌, ◌==◌, nat_le}
use Rattle.std.specs.List.{list_all, prefix_len}
use Rattle.std.proofs.lemmas.Bool.{cases_Bool, and_parts, and_right, false≢true, ne_eqb, leb-true, lt-leb, or_cases, or_from}
use Rattle.study_games.specs.Bytes.{is_letter, is_digit, is_high, is_sign, begins_symbol, is_symbol_byte, is_blank, is_glyph}
use Rattle.study_games.specs.Spaces.{begins_wide_space, begins_hard_space, begins_space, ink_len}
use Rattle.study_games.specs.Tokens.{Lexed, token_at, lexed_token, ink_of, begins_ellipsis, begins_number, front, behind, symbol}

-- a run ends at the end of the text, or before a byte of another kind
abbrev pub Stops : (ℕ → Bool) → List ℕ → Type 0
Stops p [] = Unit {0}
Stops p (b ∷ bs) = p b ≡ false

one_more : (n : ℕ) → suc n ≡ 1 + n
one_more n = omega arith

module _ (p : ℕ → Bool) where
  pub run_len : (w rest : List ℕ) → list_all p w ≡ true → Stops p rest → prefix_len p (w ++ rest) ≡ length w
  run_len [] [] all stops = refl
  run_len [] (b ∷ bs) all stops = rw stops refl
  run_len (x ∷ xs) rest all stops =
      let parts = and_parts (p x) (list_all p xs) all in rw parts.0 (ap (λ n. 1 + n) (run_len xs rest parts.1 stops) ∙ sym (one_more (length xs)))

take_all : (w rest : List ℕ) → take (length w) (w ++ rest) ≡ w
take_all [] rest = refl
take_all (x ∷ xs) rest = ap (λ (ys : List ℕ). x ∷ ys) (take_all xs rest)

drop_all : (w rest : List ℕ) → drop (length w) (w ++ rest) ≡ rest
drop_all [] rest = refl
drop_all (x ∷ xs) rest = drop_all xs rest

pub run_cut : (p : ℕ → Bool) (w rest : List ℕ) → list_all p w ≡ true → Stops p rest
    → (front p (w ++ rest) ≡ w) × (behind p (w ++ rest) ≡ rest)
run_cut p w rest all stops =
    let n = run_len p w rest all stops in (
      ap (λ k. take k (w ++ rest)) n ∙ take_all w rest,
      ap (λ k. drop k (w ++ rest)) n ∙ drop_all w rest,
    )

-- ---- symbols

-- the first bytes of a symbol
data IsFirst (b : ℕ) : Type 0 where
  digit : 48 ≤ b → b ≤ 57 → IsFirst b
  capital : 65 ≤ b → b ≤ 90 → IsFirst b
  small : 97 ≤ b → b ≤ 122 → IsFirst b
  high : 128 ≤ b → IsFirst b

letters : (b : ℕ) → is_letter b ≡ true → IsFirst b
letters b h =
    elim (or_cases (nat_le 65 b && nat_le b 90) (nat_le 97 b && nat_le b 122) h) [
      | inl c ↦ let p = and_parts (nat_le 65 b) (nat_le b 90) c in capital (leb-true 65 b p.0) (leb-true b 90 p.1)
      | inr c ↦ let p = and_parts (nat_le 97 b) (nat_le b 122) c in small (leb-true 97 b p.0) (leb-true b 122 p.1)
    ]

firsts : (b : ℕ) → begins_symbol b ≡ true → IsFirst b
firsts b h =
    elim (or_cases (is_letter b || is_digit b) (is_high b) h) [
      | inl c ↦ elim (or_cases (is_letter b) (is_digit b) c) [
        | inl l ↦ letters b l
        | inr d ↦ let p = and_parts (nat_le 48 b) (nat_le b 57) d in digit (leb-true 48 b p.0) (leb-true b 57 p.1)
      ]
      | inr c ↦ high (leb-true 128 b c)
    ]

-- bytes of none of these kinds
abbrev IsOther : ℕ → Type 0
IsOther k = (k < 48) ⊎ (((57 < k) × (k < 65)) ⊎ (((90 < k) × (k < 97)) ⊎ ((122 < k) × (k < 128))))

differ : (b k : ℕ) → IsFirst b → IsOther k → b ≡ k → ⊥
differ b k (digit l u) (inl o) e = omega (arith, l, u, o, e)
differ b k (digit l u) (inr (inl o)) e = omega (arith, l, u, o.0, o.1, e)
differ b k (digit l u) (inr (inr (inl o))) e = omega (arith, l, u, o.0, o.1, e)
differ b k (digit l u) (inr (inr (inr o))) e = omega (arith, l, u, o.0, o.1, e)
differ b k (capital l u) (inl o) e = omega (arith, l, u, o, e)
differ b k (capital l u) (inr (inl o)) e = omega (arith, l, u, o.0, o.1, e)
differ b k (capital l u) (inr (inr (inl o))) e = omega (arith, l, u, o.0, o.1, e)
differ b k (capital l u) (inr (inr (inr o))) e = omega (arith, l, u, o.0, o.1, e)
differ b k (small l u) (inl o) e = omega (arith, l, u, o, e)
differ b k (small l u) (inr (inl o)) e = omega (arith, l, u, o.0, o.1, e)
differ b k (small l u) (inr (inr (inl o))) e = omega (arith, l, u, o.0, o.1, e)
differ b k (small l u) (inr (inr (inr o))) e = omega (arith, l, u, o.0, o.1, e)
differ b k (high l) (inl o) e = omega (arith, l, o, e)
differ b k (high l) (inr (inl o)) e = omega (arith, l, o.0, o.1, e)
differ b k (high l) (inr (inr (inl o))) e = omega (arith, l, o.0, o.1, e)
differ b k (high l) (inr (inr (inr o))) e = omega (arith, l, o.0, o.1, e)

past_blanks : (b : ℕ) → IsFirst b → 13 < b
past_blanks b (digit l u) = omega (arith, l)
past_blanks b (capital l u) = omega (arith, l)
past_blanks b (small l u) = omega (arith, l)
past_blanks b (high l) = omega (arith, l)

module _ (b : ℕ) (f : IsFirst b) where
  low : (k : ℕ) → k < 48 → (b == k) ≡ false
  low k h = ne_eqb b k (differ b k f (inl h))

  middle : (k : ℕ) → 57 < k → k < 65 → (b == k) ≡ false
  middle k h i = ne_eqb b k (differ b k f (inr (inl (h, i))))

  upper : (k : ℕ) → 90 < k → k < 97 → (b == k) ≡ false
  upper k h i = ne_eqb b k (differ b k f (inr (inr (inl (h, i)))))

  top : (k : ℕ) → 122 < k → k < 128 → (b == k) ≡ false
  top k h i = ne_eqb b k (differ b k f (inr (inr (inr (h, i)))))

  no_blank : (is_blank b || b == 46) ≡ false
  no_blank =
      or_from (is_blank b) (b == 46)
      (or_from (b == 32) (nat_le 9 b && nat_le b 13) (low 32 (omega arith)) (and_right (nat_le 9 b) (nat_le b 13) (lt-leb b 13 (past_blanks b f))))
      (low 46 (omega arith))

  no_glyph : is_glyph b ≡ false
  no_glyph = or_from (b == 33) (b == 63) (low 33 (omega arith)) (middle 63 (omega arith) (omega arith))

  no_sign : is_sign b ≡ false
  no_sign =
      or_from _ (b == 58) (or_from _ (b == 95) (or_from _ (b == 94) (or_from _ (b == 126) (or_from _ (b == 35) (or_from _ (b == 47)
      (or_from _ (b == 61) (or_from (b == 43) (b == 45) (low 43 (omega arith)) (low 45 (omega arith))) (middle 61 (omega arith) (omega arith)))
      (low 47 (omega arith))) (low 35 (omega arith)))
      (top 126 (omega arith) (omega arith))) (upper 94 (omega arith) (omega arith))) (upper 95 (omega arith) (omega arith)))
      (middle 58 (omega arith) (omega arith))

-- ---- no `…` in ASCII

-- bytes of a symbol in ASCII
abbrev pub is_plain_symbol : ℕ → Bool
is_plain_symbol b = is_symbol_byte b && nat_le b 127

plain_low : (b : ℕ) → is_plain_symbol b ≡ true → b ≡ 226 → ⊥
plain_low b h e = let le = leb-true b 127 (and_parts (is_symbol_byte b) (nat_le b 127) h).1 in absurd (omega (arith, le, e))

pub no_ellipsis : (b : ℕ) (bs : List ℕ) → (b ≡ 226 → ⊥) → begins_ellipsis (b ∷ bs) ≡ false
no_ellipsis b [] other = refl
no_ellipsis b (c ∷ []) other = refl
no_ellipsis b (c ∷ d ∷ ds) other = rw (ne_eqb b 226 other) refl

behind_more : (p : ℕ → Bool) (b : ℕ) (bs : List ℕ) → p b ≡ true → behind p (b ∷ bs) ≡ behind p bs
behind_more p b bs h = rw h (ap (λ n. drop n (b ∷ bs)) (sym (one_more (prefix_len p bs))))

behind_stop : (p : ℕ → Bool) (b : ℕ) (bs : List ℕ) → p b ≡ false → behind p (b ∷ bs) ≡ b ∷ bs
behind_stop p b bs h = rw h refl

pub symbol_digit : (d : ℕ) → is_digit d ≡ true → is_symbol_byte d ≡ true
symbol_digit d h = rw h (any_true (is_letter d) (is_high d) (is_sign d))
  where
    any_true : (a b c : Bool) → (((a || true) || b) || c) ≡ true
    any_true true b c = refl
    any_true false b c = refl

-- digits in ASCII, or before anything that ends a symbol, are not followed by `…`
number_ends : (w rest : List ℕ) → list_all is_plain_symbol w ≡ true → Stops is_symbol_byte rest → begins_ellipsis (behind is_digit (w ++ rest)) ≡ false
number_ends [] [] all stops = refl
number_ends [] (b ∷ bs) all stops =
    elim (cases_Bool (is_digit b)) [
      | inl is ↦ absurd (false≢true (sym stops ∙ symbol_digit b is))
      | inr other ↦ ap begins_ellipsis (behind_stop is_digit b bs other) ∙ no_ellipsis b bs (λ e. absurd (false≢true (sym stops ∙ ap is_symbol_byte e)))
    ]
number_ends (x ∷ xs) rest all stops =
    let a = and_parts (is_plain_symbol x) (list_all is_plain_symbol xs) all in
    elim (cases_Bool (is_digit x)) [
      | inl is ↦ ap begins_ellipsis (behind_more is_digit x (xs ++ rest) is) ∙ number_ends xs rest a.1 stops
      | inr other ↦ ap begins_ellipsis (behind_stop is_digit x (xs ++ rest) other) ∙ no_ellipsis x (xs ++ rest) (plain_low x a.0)
    ]

-- ---- no space outside of ASCII in ASCII

not_wide : (b : ℕ) (bs : List ℕ) → b ≤ 127 → begins_wide_space (b ∷ bs) ≡ false
not_wide b [] h = refl
not_wide b (c ∷ []) h = refl
not_wide b (c ∷ d ∷ ds) h =
    rw (ne_eqb b 226 (λ e. omega (arith, h, e))) (rw (ne_eqb b 227 (λ e. omega (arith, h, e))) (rw (ne_eqb b 225 (λ e. omega (arith, h, e))) refl))

not_hard : (b : ℕ) (bs : List ℕ) → b ≤ 127 → begins_hard_space (b ∷ bs) ≡ false
not_hard b [] h = refl
not_hard b (c ∷ cs) h = rw (ne_eqb b 194 (λ e. omega (arith, h, e))) refl

no_space : (plain : Bool) (b : ℕ) (bs : List ℕ) → b ≤ 127 → begins_space plain (b ∷ bs) ≡ false
no_space plain b bs h =
    rw (not_wide b bs h) (rw (not_hard b bs h) (rw (and_right plain (b == 160) (ne_eqb b 160 (λ e. omega (arith, h, e)))) refl))

-- a symbol in ASCII ends before a byte of another kind
ink_ends : (b : ℕ) (w rest : List ℕ) → list_all is_plain_symbol w ≡ true → Stops is_symbol_byte rest → ink_len is_symbol_byte b (w ++ rest) ≡ length w
ink_ends b [] [] all stops = refl
ink_ends b [] (c ∷ cs) all stops = rw stops refl
ink_ends b (x ∷ xs) rest all stops =
    let a = and_parts (is_plain_symbol x) (list_all is_plain_symbol xs) all in
    let s = and_parts (is_symbol_byte x) (nat_le x 127) a.0 in
    rw s.0 (rw (no_space (nat_le b 127) x (xs ++ rest) (leb-true x 127 s.1))
    (ap (λ n. 1 + n) (ink_ends x xs rest a.1 stops) ∙ sym (one_more (length xs))))

symbol_token : (fresh : Bool) (b : ℕ) (bs : List ℕ) → IsFirst b → begins_symbol b ≡ true → begins_ellipsis (b ∷ bs) ≡ false
    → begins_space true (b ∷ bs) ≡ false → begins_number (b ∷ bs) ≡ false → lexed_token fresh b bs ≡ ink_of symbol is_symbol_byte b bs
unfolding lexed_token
symbol_token fresh b bs f begins ellipsis space number =
    rw (and_right fresh (b == 37) (low b f 37 (omega arith))) (rw (no_blank b f) (rw (top b f 123 (omega arith) (omega arith))
    (rw (middle b f 59 (omega arith) (omega arith)) (rw (upper b f 91 (omega arith) (omega arith)) (rw (low b f 40 (omega arith))
    (rw (low b f 41 (omega arith)) (rw (low b f 42 (omega arith))
    (rw (low b f 36 (omega arith)) (rw (no_glyph b f) (rw (no_sign b f) (rw ellipsis (rw space (rw begins (rw number refl))))))))))))))

-- a symbol in ASCII before anything that ends it
pub symbol_read : (fresh : Bool) (b : ℕ) (w rest : List ℕ) → begins_symbol b ≡ true → list_all is_plain_symbol (b ∷ w) ≡ true
    → Stops is_symbol_byte rest → token_at fresh (b ∷ (w ++ rest)) ≡ Some (Ok (symbol (b ∷ w), rest))
symbol_read fresh b w rest begins all stops =
    let a = and_parts (is_plain_symbol b) (list_all is_plain_symbol w) all in
    let low = leb-true b 127 (and_parts (is_symbol_byte b) (nat_le b 127) a.0).1 in
    let number = and_right (is_digit b) (begins_ellipsis (behind is_digit (b ∷ (w ++ rest)))) (number_ends (b ∷ w) rest all stops) in
    ap (λ (x : Lexed). Some x) (symbol_token fresh b (w ++ rest) (firsts b begins) begins (no_ellipsis b (w ++ rest) (plain_low b a.0))
    (no_space true b (w ++ rest) low) number)
    ∙ ap (λ (n : ℕ). Some (Ok (symbol (b ∷ take n (w ++ rest)), drop n (w ++ rest)))) (ink_ends b w rest a.1 stops)
    ∙ ap (λ (x : List ℕ). Some (Ok (symbol (b ∷ x), drop (length w) (w ++ rest)))) (take_all w rest)
    ∙ ap (λ (x : List ℕ). Some (Ok (symbol (b ∷ w), x))) (drop_all w rest)

-- Words of printable bytes, and the lines that are made of them.
use Rattle.std.proofs.Common.{◌≡◌, ℕ, zero, suc, ◌+◌, ◌/◌, ◌%◌, ◌<◌, ◌≤◌, Bool, true, false, not, List, [], ◌∷◌, ◌++◌, length, drop, refl, sym, ap}
use Rattle.std.proofs.Common.{◌∙◌, inl, inr, arith}
use Rattle.std.specs.Prelude.{◌==◌, ◌&&◌, nat_le, filter, decimal}
use Rattle.std.specs.List.{list_all, slice_split, onto_first, prefix_len}
use Rattle.std.specs.Fmt.{digits, digits_onto, digit_glyph}
use Rattle.std.proofs.lemmas.Bool.{ne_eqb, le-leb, leb-true, lt-ltb, cases_Bool, and_parts}
use Rattle.study_text.specs.Words.{is_space, words, begun_word, behind_word}
use Rattle.study_text.proofs.FirstWord.{is_word, words_cons}

-- printable bytes except the space
abbrev pub Ink : List ℕ → Type 0
Ink [] = Unit {0}
Ink (b ∷ bs) = (32 < b) × (b ≤ 126) × Ink bs

-- printable bytes
abbrev pub Print : List ℕ → Type 0
Print [] = Unit {0}
Print (b ∷ bs) = (32 ≤ b) × (b ≤ 126) × Print bs

pub ink_append : (xs ys : List ℕ) → Ink xs → Ink ys → Ink (xs ++ ys)
ink_append [] ys h k = k
ink_append (x ∷ xs) ys h k = (h.0, h.1, ink_append xs ys h.2 k)

pub print_append : (xs ys : List ℕ) → Print xs → Print ys → Print (xs ++ ys)
print_append [] ys h k = k
print_append (x ∷ xs) ys h k = (h.0, h.1, print_append xs ys h.2 k)

pub ink_prints : (xs : List ℕ) → Ink xs → Print xs
ink_prints [] h = tt
ink_prints (x ∷ xs) h = let low = h.0 in (omega arith, h.1, ink_prints xs h.2)

pub all_print : (xs : List ℕ) → Print xs → list_all (λ b. nat_le 32 b && nat_le b 126) xs ≡ true
all_print [] h = refl
all_print (x ∷ xs) h = rw (le-leb 32 x h.0, le-leb x 126 h.1) (all_print xs h.2)

-- a test for a literal text
abbrev pub inks : ℕ → Bool
inks b = nat_le 33 b && nat_le b 126

pub ink_of : (xs : List ℕ) → list_all inks xs ≡ true → Ink xs
ink_of [] h = tt
ink_of (x ∷ xs) h =
    let a = and_parts (inks x) (list_all inks xs) h in
    let b = and_parts (nat_le 33 x) (nat_le x 126) a.0 in
    let low = leb-true 33 x b.0 in
    (omega arith, leb-true x 126 b.1, ink_of xs a.1)

-- ---- numbers

digit_glyph_is : (d : ℕ) → d < 10 → digit_glyph false d ≡ 48 + d
digit_glyph_is d lt = rw (lt-ltb d 10 lt) refl

onto_ink : (k n : ℕ) (acc : List ℕ) → Ink acc → Ink (digits_onto k 10 false n acc)
onto_ink zero n acc h = h
onto_ink (suc k) n acc h =
    let glyph = digit_glyph_is (n % 10) (omega arith) in
    let more : Ink (digit_glyph false (n % 10) ∷ acc) = rw glyph (omega arith, omega arith, h) in
    elim (cases_Bool (n / 10 == 0)) [ inl last ↦ rw last more | inr later ↦ rw later (onto_ink k (n / 10) (digit_glyph false (n % 10) ∷ acc) more) ]

onto_few : (k n : ℕ) (acc : List ℕ) → length (digits_onto k 10 false n acc) ≤ k + length acc
onto_few zero n acc = omega arith
onto_few (suc k) n acc =
    let later = onto_few k (n / 10) (digit_glyph false (n % 10) ∷ acc) in
    elim (cases_Bool (n / 10 == 0)) [ inl last ↦ rw last (omega arith) | inr more ↦ rw more (omega (arith, later)) ]

-- at most 64 digits of any number are written
pub decimal_ink : (n : ℕ) → Ink (decimal n)
unfolding digits
decimal_ink n = onto_ink 64 n [] tt

pub decimal_few : (n : ℕ) → length (decimal n) ≤ 64
unfolding digits
decimal_few n = omega (arith, onto_few 64 n [])

-- ---- the first word of a line

not_space : (b : ℕ) → 32 < b → is_space b ≡ false
not_space b lt = ne_eqb b 32 (λ e. omega arith)

split_word : (w r : List ℕ) → Ink w → slice_split is_space (w ++ (32 ∷ r)) ≡ w ∷ slice_split is_space r
split_word [] r h = refl
split_word (b ∷ w) r h = rw (not_space b h.0) (ap (onto_first b) (split_word w r h.2))

split_last : (w : List ℕ) → Ink w → slice_split is_space w ≡ w ∷ []
split_last [] h = refl
split_last (b ∷ w) h = rw (not_space b h.0) (ap (onto_first b) (split_last w h.2))

pub words_more : (w r : List ℕ) → Ink w → 0 < length w → words (w ++ (32 ∷ r)) ≡ w ∷ words r
unfolding words
words_more w r h some = ap (filter is_word) (split_word w r h) ∙ words_cons w (slice_split is_space r) some

pub words_last : (w : List ℕ) → Ink w → 0 < length w → words w ≡ w ∷ []
unfolding words
words_last w h some = ap (filter is_word) (split_last w h) ∙ words_cons w [] some

pub words_spaced : (r : List ℕ) → words (32 ∷ r) ≡ words r
unfolding words
words_spaced r = refl

one_up : (n : ℕ) → suc n ≡ 1 + n
one_up n = omega arith

behind_ink : (w r : List ℕ) → Ink w → drop (prefix_len (λ b. not (is_space b)) (w ++ (32 ∷ r))) (w ++ (32 ∷ r)) ≡ 32 ∷ r
behind_ink [] r h = refl
behind_ink (b ∷ w) r h =
    rw (not_space b h.0)
    (ap (λ k. drop k (b ∷ (w ++ (32 ∷ r)))) (sym (one_up (prefix_len (λ c. not (is_space c)) (w ++ (32 ∷ r))))) ∙ behind_ink w r h.2)

-- nothing precedes a word
begun_ink : (b : ℕ) (bs : List ℕ) → is_space b ≡ false → begun_word (b ∷ bs) ≡ b ∷ bs
begun_ink b bs h = rw h refl

pub behind_more : (w r : List ℕ) → Ink w → 0 < length w → behind_word (w ++ (32 ∷ r)) ≡ 32 ∷ r
unfolding behind_word
behind_more [] r h some = absurd (omega arith)
behind_more (b ∷ w) r h some =
    ap (λ (t : List ℕ). drop (prefix_len (λ c. not (is_space c)) t) t) (begun_ink b (w ++ (32 ∷ r)) (not_space b h.0)) ∙ behind_ink (b ∷ w) r h

pub behind_spaced : (w r : List ℕ) → Ink w → 0 < length w → behind_word (32 ∷ (w ++ (32 ∷ r))) ≡ 32 ∷ r
unfolding behind_word
behind_spaced [] r h some = absurd (omega arith)
behind_spaced (b ∷ w) r h some =
    let spaced : begun_word (32 ∷ ((b ∷ w) ++ (32 ∷ r))) ≡ (b ∷ w) ++ (32 ∷ r) = rw (not_space b h.0) refl in
    ap (λ (t : List ℕ). drop (prefix_len (λ c. not (is_space c)) t) t) spaced ∙ behind_ink (b ∷ w) r h

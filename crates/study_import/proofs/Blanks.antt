-- Texts that differ in blanks: a space in one is a line feed in the other.
use Rattle.std.proofs.Common.{◌≡◌, ℕ, ◌+◌, ◌<◌, Bool, true, false, leb, List, [], ◌∷◌, ◌++◌, length, Option, Some, None, refl, sym, ap, subst, ◌∙◌}
use Rattle.std.proofs.Common.{◌⊎◌, inl, inr, arith, append_assoc}
use Rattle.std.specs.Prelude.{filter, if◌then◌else◌}
use Rattle.std.specs.List.{list_all, slice_split, onto_first, join_with_byte}
use Rattle.std.proofs.lemmas.Bool.{cases_Bool, ne_eqb, and_parts, and_from}
use Rattle.std.proofs.lemmas.List.Splits.{join_with_byte-slice_split}
use Rattle.study_text.specs.Words.{is_space, words}
use Rattle.study_text.proofs.FirstWord.{is_word, words_cons}
use Rattle.study_pgn.specs.Wrap.{lines_text}
use Rattle.study_pgn.proofs.WideLines.{tail, text_is}
use Rattle.study_import.proofs.Ink.{Ink}

abbrev pub SameByte : ℕ → ℕ → Type 0
SameByte x y = (y ≡ x) ⊎ ((x ≡ 32) × (y ≡ 10))

abbrev pub Same : List ℕ → List ℕ → Type 0
Same [] [] = Unit {0}
Same [] (y ∷ ys) = ⊥
Same (x ∷ xs) [] = ⊥
Same (x ∷ xs) (y ∷ ys) = SameByte x y × Same xs ys

pub same_refl : (xs : List ℕ) → Same xs xs
same_refl [] = tt
same_refl (x ∷ xs) = (inl refl, same_refl xs)

pub same_append : (xs ys a b : List ℕ) → Same xs a → Same ys b → Same (xs ++ ys) (a ++ b)
same_append [] ys [] b h k = k
same_append [] ys (y ∷ a) b h k = absurd h
same_append (x ∷ xs) ys [] b h k = absurd h
same_append (x ∷ xs) ys (y ∷ a) b h k = (h.0, same_append xs ys a b h.1 k)

-- if a text is a concatenation, so is one that differs in blanks
pub record Cut (xs ys t : List ℕ) : Type 0 where
  pub front : List ℕ
  pub back : List ℕ
  pub text : t ≡ front ++ back
  pub same : Same xs front
  pub rest : Same ys back

pub same_cut : (xs ys t : List ℕ) → Same (xs ++ ys) t → Cut xs ys t
same_cut [] ys t h = record { front = []; back = t; text = refl; same = tt; rest = h }
same_cut (x ∷ xs) ys [] h = absurd h
same_cut (x ∷ xs) ys (y ∷ t) h =
    let c = same_cut xs ys t h.1 in
    record { front = y ∷ c.front; back = c.back; text = ap (λ (u : List ℕ). y ∷ u) c.text; same = (h.0, c.same); rest = c.rest }

byte_is : (x y : ℕ) → 32 < x → SameByte x y → y ≡ x
byte_is x y lt (inl e) = e
byte_is x y lt (inr e) = let is = e.0 in absurd (omega arith)

ink_is : (xs a : List ℕ) → Ink xs → Same xs a → a ≡ xs
ink_is [] [] i h = refl
ink_is [] (y ∷ ys) i h = absurd h
ink_is (x ∷ xs) [] i h = absurd h
ink_is (x ∷ xs) (y ∷ ys) i h = ap (λ (b : ℕ). b ∷ ys) (byte_is x y i.0 h.0) ∙ ap (λ (t : List ℕ). x ∷ t) (ink_is xs ys i.2 h.1)

-- a word at the front
pub record WordCut (w ys t : List ℕ) : Type 0 where
  pub back : List ℕ
  pub text : t ≡ w ++ back
  pub rest : Same ys back

pub word_cut : (w ys t : List ℕ) → Ink w → Same (w ++ ys) t → WordCut w ys t
word_cut w ys t i h =
    let c = same_cut w ys t h in
    record { back = c.back; text = c.text ∙ ap (λ (x : List ℕ). x ++ c.back) (ink_is w c.front i c.same); rest = c.rest }

abbrev pub IsGap : ℕ → Type 0
IsGap b = (b ≡ 32) ⊎ (b ≡ 10)

-- a space at the front
pub record SpaceCut (ys t : List ℕ) : Type 0 where
  pub byte : ℕ
  pub back : List ℕ
  pub text : t ≡ byte ∷ back
  pub gap : IsGap byte
  pub rest : Same ys back

gap_of : (y : ℕ) → SameByte 32 y → IsGap y
gap_of y (inl e) = inl e
gap_of y (inr e) = inr e.1

pub space_cut : (ys t : List ℕ) → Same (32 ∷ ys) t → SpaceCut ys t
space_cut ys [] h = absurd h
space_cut ys (y ∷ t) h = record { byte = y; back = t; text = refl; gap = gap_of y h.0; rest = h.1 }

-- what is true of all bytes, including the line feed
byte_all : (q : ℕ → Bool) (x y : ℕ) → q 10 ≡ true → q x ≡ true → SameByte x y → q y ≡ true
byte_all q x y ten h (inl e) = subst (λ (b : ℕ). q b ≡ true) (sym e) h
byte_all q x y ten h (inr e) = subst (λ (b : ℕ). q b ≡ true) (sym e.1) ten

pub same_all : (q : ℕ → Bool) (xs a : List ℕ) → q 10 ≡ true → list_all q xs ≡ true → Same xs a → list_all q a ≡ true
same_all q [] [] ten h k = refl
same_all q [] (y ∷ ys) ten h k = absurd k
same_all q (x ∷ xs) [] ten h k = absurd k
same_all q (x ∷ xs) (y ∷ ys) ten h k =
    let a = and_parts (q x) (list_all q xs) h in
    and_from (q y) (list_all q ys) (byte_all q x y ten a.0 k.0) (same_all q xs ys ten a.1 k.1)

-- ---- one space between two words

-- whether the last byte is a space, or there is none; `None` if two spaces are adjacent
abbrev pub run : Bool → List ℕ → Option Bool
run spaced [] = Some spaced
run spaced (b ∷ bs) = if is_space b then (if spaced then None else run true bs) else run false bs

abbrev pub Runs : Bool → List ℕ → Bool → Type 0
Runs a xs b = run a xs ≡ Some b

space_by : (space a b c : Bool) (xs ys : List ℕ) → (Runs true xs b → Runs true (xs ++ ys) c) → (Runs false xs b → Runs false (xs ++ ys) c)
    → (if space then (if a then None else run true xs) else run false xs) ≡ Some b
    → (if space then (if a then None else run true (xs ++ ys)) else run false (xs ++ ys)) ≡ Some c
space_by true true b c xs ys f g e = absurd cc
space_by true false b c xs ys f g e = f e
space_by false a b c xs ys f g e = g e

pub runs_append : (a b c : Bool) (xs ys : List ℕ) → Runs a xs b → Runs b ys c → Runs a (xs ++ ys) c
runs_append a b c [] ys h k = let same : a ≡ b = some_is a b h in subst (λ (x : Bool). Runs x ys c) (sym same) k
  where
    some_is : (a b : Bool) → Some a ≡ Some b → a ≡ b
    some_is a b e = cc
runs_append a b c (x ∷ xs) ys h k =
    space_by (is_space x) a b c xs ys (λ e. runs_append true b c xs ys e k) (λ e. runs_append false b c xs ys e k) h

pub runs_ink : (a : Bool) (w : List ℕ) → Ink w → 0 < length w → Runs a w false
runs_ink a [] i some = absurd (omega arith)
runs_ink a (b ∷ []) i some = let low = i.0 in rw (ne_eqb b 32 (λ e. omega arith)) refl
runs_ink a (b ∷ c ∷ w) i some = let low = i.0 in rw (ne_eqb b 32 (λ e. omega arith)) (runs_ink false (c ∷ w) i.2 (omega arith))

-- ---- its words

abbrev AllSome : List (List ℕ) → Type 0
AllSome [] = Unit {0}
AllSome (w ∷ ws) = (0 < length w) × AllSome ws

abbrev RestSome : Bool → List (List ℕ) → Type 0
RestSome spaced [] = ⊥
RestSome true (w ∷ ws) = AllSome (w ∷ ws)
RestSome false (w ∷ ws) = AllSome ws

all_of : (ps : List (List ℕ)) → RestSome true ps → AllSome ps
all_of [] h = absurd h
all_of (p ∷ ps) h = h

onto_some : (a : Bool) (b : ℕ) (ps : List (List ℕ)) → RestSome false ps → RestSome a (onto_first b ps)
onto_some a b [] h = absurd h
onto_some true b (p ∷ ps) h = (omega arith, h)
onto_some false b (p ∷ ps) h = h

parts_by : (space a : Bool) (b : ℕ) (bs : List ℕ) → (Runs true bs false → RestSome true (slice_split is_space bs))
    → (Runs false bs false → RestSome false (slice_split is_space bs)) → (if space then (if a then None else run true bs) else run false bs) ≡ Some false
    → RestSome a (if space then [] ∷ slice_split is_space bs else onto_first b (slice_split is_space bs))
parts_by true true b bs f g e = absurd cc
parts_by true false b bs f g e = all_of (slice_split is_space bs) (f e)
parts_by false a b bs f g e = onto_some a b (slice_split is_space bs) (g e)

parts_some : (a : Bool) (xs : List ℕ) → Runs a xs false → RestSome a (slice_split is_space xs)
parts_some true [] h = absurd cc
parts_some false [] h = tt
parts_some a (b ∷ bs) h = parts_by (is_space b) a b bs (parts_some true bs) (parts_some false bs) h

words_kept : (ps : List (List ℕ)) → AllSome ps → filter is_word ps ≡ ps
words_kept [] h = refl
words_kept (p ∷ ps) h = words_cons p ps h.0 ∙ ap (λ (x : List (List ℕ)). p ∷ x) (words_kept ps h.1)

abbrev spaced : List (List ℕ) → List ℕ
spaced [] = 10 ∷ []
spaced (w ∷ ws) = 32 ∷ (w ++ spaced ws)

joined_is : (w : List ℕ) (ws : List (List ℕ)) → join_with_byte 32 (w ∷ ws) ++ 10 ∷ [] ≡ w ++ spaced ws
joined_is w [] = refl
joined_is w (v ∷ ws) = append_assoc w (32 ∷ join_with_byte 32 (v ∷ ws)) (10 ∷ []) ∙ ap (λ (t : List ℕ). w ++ (32 ∷ t)) (joined_is v ws)

tail_same : (n : ℕ) (ws : List (List ℕ)) → Same (spaced ws) (tail n ws)
unfolding tail
tail_same n [] = (inl refl, tt)
tail_same n (w ∷ ws) = elim (cases_Bool (leb (n + 1 + length w) 79)) [
  | inl fits ↦ rw fits (inl refl, same_append w (spaced ws) w (tail (n + 1 + length w) ws) (same_refl w) (tail_same (n + 1 + length w) ws))
  | inr over ↦ rw over (inr (refl, refl), same_append w (spaced ws) w (tail (length w) ws) (same_refl w) (tail_same (length w) ws))
]

lines_by : (xs : List ℕ) (ps : List (List ℕ)) → RestSome true ps → join_with_byte 32 ps ≡ xs → Same (xs ++ 10 ∷ []) (lines_text (filter is_word ps))
lines_by xs [] h e = absurd h
lines_by xs (w ∷ ws) h e =
    let text : xs ++ 10 ∷ [] ≡ w ++ spaced ws = ap (λ (t : List ℕ). t ++ 10 ∷ []) (sym e) ∙ joined_is w ws in
    let lines : lines_text (filter is_word (w ∷ ws)) ≡ w ++ tail (length w) ws = ap lines_text (words_kept (w ∷ ws) h) ∙ text_is w ws in
    rw text (rw lines (same_append w (spaced ws) w (tail (length w) ws) (same_refl w) (tail_same (length w) ws)))

-- a text with one space between two words, in lines
pub lines_same : (xs : List ℕ) → Runs true xs false → Same (xs ++ 10 ∷ []) (lines_text (words xs))
unfolding words
lines_same xs h = lines_by xs (slice_split is_space xs) (parts_some true xs h) (join_with_byte-slice_split 32 xs)

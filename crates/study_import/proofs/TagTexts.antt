-- The texts of tags are printable.
use Rattle.std.proofs.Common.{◌≡◌, ◌≤◌, ◌-◌, ℕ, zero, suc, Bool, true, false, List, [], ◌∷◌, ◌++◌, length, take, drop, Some, None, refl, arith}
use Rattle.std.specs.Prelude.{◌||◌, ◌==◌, nat_le, if◌then◌else◌}
use Rattle.std.specs.List.{list_all, prefix_len}
use Rattle.std.proofs.lemmas.Bool.{and_parts, le-leb, leb-false}
use Rattle.study_marks.specs.Edits.{is_printable}
use Rattle.study_games.specs.Bytes.{is_blank}
use Rattle.study_games.specs.Symbols.{without_end}
use Rattle.study_games.specs.Words.{is_inked, is_space, begun_word, first_word, without_spaces}
use Rattle.study_games.specs.Characters.{Character, is_utf8, read_at}
use Rattle.study_games.specs.Ascii.{first_or, behind_or, word_at, latin_1, latin_a, romanian, cyrillic, ukrainian, marks, in_range, letters_of}
use Rattle.study_games.specs.Ascii.{ascii_of, spelled_behind, spelled_in, spelled_out, short_text}

abbrev AllPrint : List ℕ → Type 0
AllPrint [] = Unit {0}
AllPrint (b ∷ bs) = (is_printable b ≡ true) × AllPrint bs

print_all : (bs : List ℕ) → AllPrint bs → list_all is_printable bs ≡ true
print_all [] h = refl
print_all (b ∷ bs) h = rw h.0 (print_all bs h.1)

all_print : (bs : List ℕ) → list_all is_printable bs ≡ true → AllPrint bs
all_print [] h = tt
all_print (b ∷ bs) h = let parts = and_parts (is_printable b) (list_all is_printable bs) h in (parts.0, all_print bs parts.1)

-- ---- parts of texts

print_append : (xs ys : List ℕ) → AllPrint xs → AllPrint ys → AllPrint (xs ++ ys)
print_append [] ys h k = k
print_append (x ∷ xs) ys h k = (h.0, print_append xs ys h.1 k)

print_take : (n : ℕ) (xs : List ℕ) → AllPrint xs → AllPrint (take n xs)
print_take zero xs h = tt
print_take (suc n) [] h = tt
print_take (suc n) (x ∷ xs) h = (h.0, print_take n xs h.1)

print_drop : (n : ℕ) (xs : List ℕ) → AllPrint xs → AllPrint (drop n xs)
print_drop zero xs h = h
print_drop (suc n) [] h = tt
print_drop (suc n) (x ∷ xs) h = print_drop n xs h.1

print_if : (b : Bool) (xs ys : List ℕ) → AllPrint xs → AllPrint ys → AllPrint (if b then xs else ys)
print_if true xs ys h k = h
print_if false xs ys h k = k

print_without_end : (p : ℕ → Bool) (xs : List ℕ) → AllPrint xs → AllPrint (without_end p xs)
print_without_end p [] h = tt
print_without_end p (x ∷ xs) h = print_if (list_all p (x ∷ xs)) [] (x ∷ without_end p xs) tt (h.0, print_without_end p xs h.1)

-- ---- words of tables

word_prints : (t : List ℕ) → AllPrint t → AllPrint (first_or (begun_word t))
word_prints [] h = (refl, tt)
word_prints (b ∷ bs) h = print_take (prefix_len is_inked (b ∷ bs)) (b ∷ bs) h

rest_prints : (t : List ℕ) → AllPrint t → AllPrint (behind_or (begun_word t))
rest_prints [] h = tt
rest_prints (b ∷ bs) h = print_drop (prefix_len is_inked (b ∷ bs)) (b ∷ bs) h

first_prints : (t : List ℕ) → AllPrint t → AllPrint (first_or (first_word t))
unfolding first_word
first_prints t h = word_prints (drop (prefix_len is_blank t) t) (print_drop (prefix_len is_blank t) t h)

behind_prints : (t : List ℕ) → AllPrint t → AllPrint (behind_or (first_word t))
unfolding first_word
behind_prints t h = rest_prints (drop (prefix_len is_blank t) t) (print_drop (prefix_len is_blank t) t h)

at_prints : (n : ℕ) (t : List ℕ) → AllPrint t → AllPrint (word_at n t)
at_prints zero t h = first_prints t h
at_prints (suc n) t h = at_prints n (behind_or (first_word t)) (behind_prints t h)

latin_1_prints : AllPrint latin_1
unfolding latin_1
latin_1_prints = all_print latin_1 refl

latin_a_prints : AllPrint latin_a
unfolding latin_a
latin_a_prints = all_print latin_a refl

romanian_prints : AllPrint romanian
unfolding romanian
romanian_prints = all_print romanian refl

cyrillic_prints : AllPrint cyrillic
unfolding cyrillic
cyrillic_prints = all_print cyrillic refl

ukrainian_prints : AllPrint ukrainian
unfolding ukrainian
ukrainian_prints = all_print ukrainian refl

marks_print : AllPrint marks
unfolding marks
marks_print = all_print marks refl

letters_print : (c : ℕ) → AllPrint (letters_of c)
letters_print c =
    print_if (in_range 161 255 c) _ _ (at_prints (c - 161) latin_1 latin_1_prints)
    (print_if (in_range 256 383 c) _ _ (at_prints (c - 256) latin_a latin_a_prints)
    (print_if (in_range 536 539 c) _ _ (at_prints (c - 536) romanian romanian_prints)
    (print_if (in_range 1025 1118 c) _ _ (at_prints (c - 1025) cyrillic cyrillic_prints)
    (print_if (in_range 1168 1169 c) _ _ (at_prints (c - 1168) ukrainian ukrainian_prints)
    (print_if (in_range 8208 8243 c) _ _ (at_prints (c - 8208) marks marks_print) (refl, tt))))))

-- ---- a character

ascii_by : (c : ℕ) (control low soft : Bool) → (control ≡ false → low ≡ true → is_printable c ≡ true)
    → AllPrint (if control then 32 ∷ [] else (if low then c ∷ [] else (if soft then [] else letters_of c)))
ascii_by c true low soft h = (refl, tt)
ascii_by c false true soft h = (h refl refl, tt)
ascii_by c false false true h = tt
ascii_by c false false false h = letters_print c

or_false : (a b : Bool) → (a || b) ≡ false → a ≡ false
or_false true b e = e
or_false false b e = refl

above : (c : ℕ) → nat_le c 31 ≡ false → nat_le 32 c ≡ true
above c e = le-leb 32 c (omega (arith, leb-false c 31 e))

low_prints : (c : ℕ) → (nat_le c 31 || (c == 127 || c == 160)) ≡ false → nat_le c 126 ≡ true → is_printable c ≡ true
low_prints c e f = rw (above c (or_false (nat_le c 31) (c == 127 || c == 160) e), f) refl

ascii_prints : (c : ℕ) → AllPrint (ascii_of c)
unfolding ascii_of
ascii_prints c = ascii_by c (nat_le c 31 || (c == 127 || c == 160)) (nat_le c 126) (c == 173) (low_prints c)

-- ---- a value

behind_spelled : (next : List ℕ → List ℕ) (x : Character) → ((t : List ℕ) → AllPrint (next t)) → AllPrint (spelled_behind next x)
behind_spelled next None h = tt
behind_spelled next (Some x) h = print_append (ascii_of x.0) (next x.1) (ascii_prints x.0) (h x.1)

in_spelled : (n : ℕ) (utf8 : Bool) (t : List ℕ) → AllPrint (spelled_in n utf8 t)
in_spelled zero utf8 t = tt
in_spelled (suc n) utf8 t = behind_spelled (spelled_in n utf8) (read_at utf8 t) (in_spelled n utf8)

out_spelled : (value : List ℕ) → AllPrint (spelled_out value)
unfolding spelled_out
out_spelled value = in_spelled (length value) (is_utf8 value) value

pub short_prints : (value : List ℕ) → list_all is_printable (short_text (spelled_out value)) ≡ true
unfolding short_text
short_prints value =
    print_all (without_end is_space (take 60 (without_spaces (spelled_out value))))
    (print_without_end is_space (take 60 (without_spaces (spelled_out value)))
    (print_take 60 (without_spaces (spelled_out value)) (print_drop (prefix_len is_space (spelled_out value)) (spelled_out value) (out_spelled value))))

-- ---- its length

end_if : (b : Bool) (x n : ℕ) (xs : List ℕ) → length xs ≤ n → length (if b then [] else x ∷ xs) ≤ suc n
end_if true x n xs h = omega arith
end_if false x n xs h = omega (arith, h)

shorter : (p : ℕ → Bool) (xs : List ℕ) → length (without_end p xs) ≤ length xs
shorter p [] = omega arith
shorter p (x ∷ xs) = end_if (list_all p (x ∷ xs)) x (length xs) (without_end p xs) (shorter p xs)

few_taken : (n : ℕ) (xs : List ℕ) → length (take n xs) ≤ n
few_taken zero xs = omega arith
few_taken (suc n) [] = omega arith
few_taken (suc n) (x ∷ xs) = omega (arith, few_taken n xs)

pub short_few : (value : List ℕ) → length (short_text (spelled_out value)) ≤ 60
unfolding short_text
short_few value =
    omega (arith, shorter is_space (take 60 (without_spaces (spelled_out value))), few_taken 60 (without_spaces (spelled_out value)))

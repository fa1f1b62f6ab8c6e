-- Lines of printable ASCII.
use Rattle.std.proofs.Common.{◌≡◌, ℕ, zero, suc, Bool, true, false, List, [], ◌∷◌, drop, length, refl, sym, ap, ◌∙◌, inl, inr, arith}
use Rattle.std.specs.Prelude.{not, ◌&&◌, ◌==◌, nat_le, filter}
use Rattle.std.specs.List.{list_all, prefix_len, slice_split, onto_first}
use Rattle.std.specs.Str.{IsAscii}
use Rattle.std.proofs.lemmas.Bool.{leb-true, cases_Bool}
use Rattle.study_text.specs.Words.{is_space, words, begun_word, behind_word}
use Rattle.study_marks.specs.Edits.{is_printable}
use Rattle.study_command.specs.Parser.{trim_end, trim}

pub both : (x y : Bool) → (x && y) ≡ true → (x ≡ true) × (y ≡ true)
both true y e = (refl, e)
both false y e = absurd cc

pub IsAscii-from_printable : (bs : List ℕ) → list_all is_printable bs ≡ true → IsAscii bs
IsAscii-from_printable [] h i = omega arith
IsAscii-from_printable (b ∷ bs) h zero = let at = both (is_printable b) (list_all is_printable bs) h in
    let le = leb-true b 126 (both (nat_le 32 b) (nat_le b 126) at.0).1 in omega arith
IsAscii-from_printable (b ∷ bs) h (suc i) = IsAscii-from_printable bs (both (is_printable b) (list_all is_printable bs) h).1 i

list_all-drop : (n : ℕ) (bs : List ℕ) → list_all is_printable bs ≡ true → list_all is_printable (drop n bs) ≡ true
list_all-drop zero bs h = h
list_all-drop (suc n) [] h = refl
list_all-drop (suc n) (b ∷ bs) h = list_all-drop n bs (both (is_printable b) (list_all is_printable bs) h).1

pub printable_behind : (line : List ℕ) → list_all is_printable line ≡ true → list_all is_printable (behind_word line) ≡ true
unfolding behind_word
printable_behind line h =
    let word = begun_word line in
    list_all-drop (prefix_len (λ b. not (is_space b)) word) word (list_all-drop (prefix_len is_space line) line h)

-- ---- words and trimmed texts

abbrev pub AllPrintable : List (List ℕ) → Bool
AllPrintable parts = list_all (λ part. list_all is_printable part) parts

onto_printable : (b : ℕ) (parts : List (List ℕ)) → is_printable b ≡ true → AllPrintable parts ≡ true → AllPrintable (onto_first b parts) ≡ true
onto_printable b [] h k = rw h refl
onto_printable b (p ∷ ps) h k = let two = both (list_all is_printable p) (AllPrintable ps) k in rw (h, two.0) two.1

split_printable : (line : List ℕ) → list_all is_printable line ≡ true → AllPrintable (slice_split is_space line) ≡ true
split_printable [] h = refl
split_printable (b ∷ line) h =
    let at = both (is_printable b) (list_all is_printable line) h in
    let rest = split_printable line at.1 in
    elim (cases_Bool (is_space b)) [ inl space ↦ rw space rest | inr letter ↦ rw letter (onto_printable b (slice_split is_space line) at.0 rest) ]

filter_printable : (q : List ℕ → Bool) (parts : List (List ℕ)) → AllPrintable parts ≡ true → AllPrintable (filter q parts) ≡ true
filter_printable q [] h = refl
filter_printable q (p ∷ ps) h =
    let two = both (list_all is_printable p) (AllPrintable ps) h in
    elim (cases_Bool (q p)) [ inl hit ↦ rw (hit, two.0) (filter_printable q ps two.1) | inr miss ↦ rw miss (filter_printable q ps two.1) ]

words_printable : (line : List ℕ) → list_all is_printable line ≡ true → AllPrintable (words line) ≡ true
unfolding words
words_printable line h = filter_printable (λ word. not (length word == 0)) (slice_split is_space line) (split_printable line h)

pub printable_first : (line word : List ℕ) (more : List (List ℕ)) → words line ≡ word ∷ more
    → list_all is_printable line ≡ true → (list_all is_printable word ≡ true) × (AllPrintable more ≡ true)
printable_first line word more e h = both (list_all is_printable word) (AllPrintable more) (sym (ap AllPrintable e) ∙ words_printable line h)

ended_printable : (xs : List ℕ) → list_all is_printable xs ≡ true → list_all is_printable (trim_end xs) ≡ true
ended_printable [] h = refl
ended_printable (b ∷ bs) h =
    let at = both (is_printable b) (list_all is_printable bs) h in
    elim (cases_Bool (list_all is_space (b ∷ bs))) [ inl all ↦ rw all refl | inr some ↦ rw (some, at.0) (ended_printable bs at.1) ]

pub printable_trimmed : (text : List ℕ) → list_all is_printable text ≡ true → list_all is_printable (trim text) ≡ true
unfolding trim
printable_trimmed text h = ended_printable (begun_word text) (list_all-drop (prefix_len is_space text) text h)

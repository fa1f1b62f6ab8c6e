-- The text of a tag has no spaces at its ends.
use Rattle.std.proofs.Common.{◌≡◌, ℕ, zero, suc, ◌+◌, ◌≤◌, Bool, true, false, List, [], ◌∷◌, length, take, Option, Some, None, refl, sym, ap, ◌∙◌}
use Rattle.std.proofs.Common.{inl, inr, arith}
use Rattle.std.specs.Prelude.{◌==◌, codes, if◌then◌else◌}
use Rattle.std.specs.List.{list_all, prefix_len}
use Rattle.std.proofs.lemmas.Bool.{cases_Bool, and_parts, leb-true, false≢true, false_from_ne_true}
use Rattle.study_text.specs.Words.{is_space}
use Rattle.study_marks.specs.declared.tag.TagName.{TagName}
use Rattle.study_marks.specs.declared.tag.TagName.TheVariants as named
use Rattle.study_marks.specs.Edits.{is_printable}
use Rattle.study_command.specs.Parser.{trim_end}
use Rattle.study_games.specs.Symbols.{without_end}
use Rattle.study_games.specs.Words.{is_space as is_blank_space, without_spaces}
use Rattle.study_games.specs.Ascii.{spelled_out, short_text}
use Rattle.study_games.specs.Header.{unescape}
use Rattle.study_import.specs.Blocks.{unknown_text, tag_text, text_or_unknown, tag_value_text}
use Rattle.study_import.proofs.Ink.{Print}
use Rattle.study_import.proofs.CommandLines.{IsTrimmed}
use Rattle.study_import.proofs.TagTexts.{short_prints, short_few}

-- ---- spaces at the end

pub same_end : (xs : List ℕ) → without_end is_blank_space xs ≡ trim_end xs
same_end [] = refl
same_end (x ∷ xs) = ap (λ (t : List ℕ). if list_all is_space (x ∷ xs) then [] else x ∷ t) (same_end xs)

all_ended : (xs : List ℕ) → list_all is_space (trim_end xs) ≡ true → list_all is_space xs ≡ true
all_ended [] h = refl
all_ended (x ∷ xs) h = elim (cases_Bool (list_all is_space (x ∷ xs))) [
  | inl all ↦ all
  | inr some ↦
      let k : list_all is_space (x ∷ trim_end xs) ≡ true = rw some at h in
      let a = and_parts (is_space x) (list_all is_space (trim_end xs)) k in
      rw a.0 (all_ended xs a.1)
]

ended_twice : (xs : List ℕ) → trim_end (trim_end xs) ≡ trim_end xs
ended_twice [] = refl
ended_twice (x ∷ xs) = elim (cases_Bool (list_all is_space (x ∷ xs))) [
  | inl all ↦ rw all refl
  | inr some ↦
      let none : list_all is_space (x ∷ trim_end xs) ≡ false =
      false_from_ne_true (list_all is_space (x ∷ trim_end xs)) (λ e.
      let a = and_parts (is_space x) (list_all is_space (trim_end xs)) e in
      let b : list_all is_space (x ∷ xs) ≡ true = rw a.0 (all_ended xs a.1) in
      false≢true (sym some ∙ b)) in
      rw some (rw none (ap (λ (t : List ℕ). x ∷ t) (ended_twice xs)))
]

-- ---- spaces at the front

abbrev Starts : List ℕ → Type 0
Starts [] = Unit {0}
Starts (b ∷ bs) = is_space b ≡ false

one_up : (n : ℕ) → 1 + n ≡ suc n
one_up n = omega arith

starts_without : (xs : List ℕ) → Starts (without_spaces xs)
starts_without [] = tt
starts_without (x ∷ xs) = elim (cases_Bool (is_space x)) [
  | inl space ↦ rw space (rw (one_up (prefix_len is_blank_space xs)) (starts_without xs))
  | inr other ↦ rw other other
]

starts_take : (n : ℕ) (xs : List ℕ) → Starts xs → Starts (take n xs)
starts_take zero xs h = tt
starts_take (suc n) [] h = tt
starts_take (suc n) (x ∷ xs) h = h

starts_ended : (xs : List ℕ) → Starts xs → Starts (trim_end xs)
starts_ended [] h = tt
starts_ended (x ∷ xs) h = elim (cases_Bool (list_all is_space (x ∷ xs))) [ inl all ↦ rw all tt | inr some ↦ rw some h ]

trimmed_from : (xs : List ℕ) → Starts xs → trim_end xs ≡ xs → (length xs == 0) ≡ false → IsTrimmed xs
trimmed_from [] h e some = absurd cc
trimmed_from (x ∷ xs) h e some = record { first = x; rest = xs; begins = refl; inked = h; ends = e }

short_starts : (value : List ℕ) → Starts (short_text value)
unfolding short_text
short_starts value =
    rw (same_end (take 60 (without_spaces value)))
    (starts_ended (take 60 (without_spaces value)) (starts_take 60 (without_spaces value) (starts_without value)))

short_ends : (value : List ℕ) → trim_end (short_text value) ≡ short_text value
unfolding short_text
short_ends value = rw (same_end (take 60 (without_spaces value))) (ended_twice (take 60 (without_spaces value)))

-- ---- the text of a tag

unknown_trimmed : (name : TagName) → IsTrimmed (unknown_text name)
unknown_trimmed named.Date = record { first = 63; rest = codes "???.??.??"; begins = refl; inked = refl; ends = refl }
unknown_trimmed named.Event = record { first = 63; rest = []; begins = refl; inked = refl; ends = refl }
unknown_trimmed named.Site = record { first = 63; rest = []; begins = refl; inked = refl; ends = refl }
unknown_trimmed named.Round = record { first = 63; rest = []; begins = refl; inked = refl; ends = refl }
unknown_trimmed named.White = record { first = 63; rest = []; begins = refl; inked = refl; ends = refl }
unknown_trimmed named.Black = record { first = 63; rest = []; begins = refl; inked = refl; ends = refl }

shown_trimmed : (name : TagName) (text : List ℕ) (none : Bool) → (length text == 0) ≡ none → Starts text → trim_end text ≡ text
    → IsTrimmed (if none then unknown_text name else text)
shown_trimmed name text true is h e = unknown_trimmed name
shown_trimmed name text false is h e = trimmed_from text h e is

pub text_trimmed : (name : TagName) (value : Option (List ℕ)) → IsTrimmed (tag_value_text name value)
text_trimmed name None = unknown_trimmed name
text_trimmed name (Some value) =
    shown_trimmed name (tag_text (unescape value)) (length (tag_text (unescape value)) == 0) refl (short_starts (spelled_out (unescape value)))
    (short_ends (spelled_out (unescape value)))

print_of : (xs : List ℕ) → list_all is_printable xs ≡ true → Print xs
print_of [] h = tt
print_of (x ∷ xs) h =
    let a = and_parts (is_printable x) (list_all is_printable xs) h in
    let b = and_parts _ _ a.0 in
    (leb-true 32 x b.0, leb-true x 126 b.1, print_of xs a.1)

unknown_prints : (name : TagName) → (list_all is_printable (unknown_text name) ≡ true) × (length (unknown_text name) ≤ 60)
unknown_prints named.Date = (refl, omega arith)
unknown_prints named.Event = (refl, omega arith)
unknown_prints named.Site = (refl, omega arith)
unknown_prints named.Round = (refl, omega arith)
unknown_prints named.White = (refl, omega arith)
unknown_prints named.Black = (refl, omega arith)

shown_prints : (name : TagName) (text : List ℕ) (none : Bool) → list_all is_printable text ≡ true
    → list_all is_printable (if none then unknown_text name else text) ≡ true
shown_prints name text true h = (unknown_prints name).0
shown_prints name text false h = h

pub text_prints : (name : TagName) (value : Option (List ℕ)) → Print (tag_value_text name value)
text_prints name None = print_of (unknown_text name) (unknown_prints name).0
text_prints name (Some value) =
    print_of (text_or_unknown name (tag_text (unescape value)))
    (shown_prints name (tag_text (unescape value)) (length (tag_text (unescape value)) == 0) (short_prints (unescape value)))

shown_few : (name : TagName) (text : List ℕ) (none : Bool) → length text ≤ 60 → length (if none then unknown_text name else text) ≤ 60
shown_few name text true h = (unknown_prints name).1
shown_few name text false h = h

pub text_few : (name : TagName) (value : Option (List ℕ)) → length (tag_value_text name value) ≤ 60
text_few name None = (unknown_prints name).1
text_few name (Some value) = shown_few name (tag_text (unescape value)) (length (tag_text (unescape value)) == 0) (short_few (unescape value))

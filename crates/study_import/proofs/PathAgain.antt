-- A printed path reads back as itself.
use Rattle.std.proofs.Common.{◌≡◌, ℕ, ◌<◌, ◌≤◌, Bool, true, false, List, [], ◌∷◌, ◌++◌, length, map, Some, refl, ap, ◌∙◌, arith}
use Rattle.std.specs.Prelude.{◌==◌, codes, decimal}
use Rattle.std.specs.List.{list_all, slice_split, onto_first}
use Rattle.std.specs.Char.{digit_value}
use Rattle.std.specs.Str.{bytes_eq}
use Rattle.std.specs.Str.Parse.{AllDigits, digits_value}
use Rattle.std.proofs.lemmas.Bool.{ne_eqb, le-leb}
use Rattle.std.proofs.lemmas.Bool.Decides.{nat_tests}
use Rattle.std.proofs.lemmas.List.{append-nil}
use Rattle.std.proofs.lemmas.Fmt.{decimal_is_IsNumeral, decimal_nonempty, length-decimal-le}
use Rattle.study_notation.specs.Fen.{is_digit}
use Rattle.study_text.specs.Paths.{path_text, more_places}
use Rattle.study_command.specs.Paths.{is_place, place_parsed, is_path, is_path_word, steps_of}
use Rattle.study_command.specs.Parser.{path_of}
use Rattle.study_import.proofs.Spelling.{AllBelow}

digit_in : (c : ℕ) → digit_value c < 10 → (48 ≤ c) × (c ≤ 57)
digit_in c lt = (grind (arith, nat_tests), grind (arith, nat_tests))

-- digits
abbrev Digits : List ℕ → Type 0
Digits [] = Unit {0}
Digits (c ∷ cs) = (48 ≤ c) × (c ≤ 57) × Digits cs

digits_in : (ds : List ℕ) → AllDigits 10 ds → Digits ds
digits_in [] h = tt
digits_in (c ∷ ds) h = let d = digit_in c h.0 in (d.0, d.1, digits_in ds h.1)

all_digits : (ds : List ℕ) → Digits ds → list_all is_digit ds ≡ true
all_digits [] h = refl
all_digits (c ∷ ds) h = rw (le-leb 48 c h.0, le-leb c 57 h.1) (all_digits ds h.2)

-- a number of at most three digits
pub record IsNumber (n : ℕ) : Type 0 where
  pub digits : Digits (decimal n)
  pub value : digits_value 10 (decimal n) ≡ n
  pub some : 0 < length (decimal n)
  pub few : length (decimal n) ≤ 3

number : (n : ℕ) → n < 1000 → IsNumber n
number n lt =
    let is = decimal_is_IsNumeral n (omega arith) in
    record {
      digits = digits_in (decimal n) is.0.1;
      value = is.1;
      some = decimal_nonempty n (omega arith);
      few = length-decimal-le 3 n (omega arith) (omega arith) (omega arith);
    }

place_is : (n : ℕ) → IsNumber n → is_place (decimal n) ≡ true
place_is n h =
    let some = h.some in
    rw (le-leb 1 (length (decimal n)) (omega arith), le-leb (length (decimal n)) 3 h.few) (all_digits (decimal n) h.digits)

pub number_parsed : (n : ℕ) → n < 1000 → place_parsed (decimal n) ≡ Some n
unfolding place_parsed
number_parsed n lt = let h = number n lt in rw (place_is n h, h.value) refl

abbrev is_point : ℕ → Bool
is_point b = b == 46

cut_at : (ds r : List ℕ) → Digits ds → slice_split is_point (ds ++ (46 ∷ r)) ≡ ds ∷ slice_split is_point r
cut_at [] r h = refl
cut_at (c ∷ ds) r h = let low = h.0 in rw (ne_eqb c 46 (λ e. omega arith)) (ap (onto_first c) (cut_at ds r h.2))

uncut : (ds : List ℕ) → Digits ds → slice_split is_point ds ≡ ds ∷ []
uncut [] h = refl
uncut (c ∷ ds) h = let low = h.0 in rw (ne_eqb c 46 (λ e. omega arith)) (ap (onto_first c) (uncut ds h.2))

places_cut : (k : ℕ) (ks : List ℕ) → k < 1000 → AllBelow 1000 ks → slice_split is_point (decimal k ++ more_places ks) ≡ map decimal (k ∷ ks)
places_cut k [] lt h = ap (slice_split is_point) (append-nil (decimal k)) ∙ uncut (decimal k) (number k (omega arith)).digits
places_cut k (j ∷ js) lt h =
    cut_at (decimal k) (decimal j ++ more_places js) (number k (omega arith)).digits
    ∙ ap (λ (ws : List (List ℕ)). decimal k ∷ ws) (places_cut j js h.0 h.1)

all_places : (ks : List ℕ) → AllBelow 1000 ks → list_all is_place (map decimal ks) ≡ true
all_places [] h = refl
all_places (k ∷ ks) h = let lt = h.0 in rw (place_is k (number k (omega arith))) (all_places ks h.1)

values : (ks : List ℕ) → AllBelow 1000 ks → map (digits_value 10) (map decimal ks) ≡ ks
values [] h = refl
values (k ∷ ks) h = let lt = h.0 in rw ((number k (omega arith)).value) (ap (λ (t : List ℕ). k ∷ t) (values ks h.1))

no_root : (ds r : List ℕ) → Digits ds → 0 < length ds → bytes_eq (ds ++ r) (codes "root") ≡ false
no_root [] r h some = absurd (omega arith)
no_root (c ∷ ds) r h some = let high = h.1 in rw (ne_eqb c 114 (λ e. omega arith)) refl

pub below_more : (m n : ℕ) (ks : List ℕ) → m ≤ n → AllBelow m ks → AllBelow n ks
below_more m n [] le h = tt
below_more m n (k ∷ ks) le h = let low = h.0 in (omega arith, below_more m n ks le h.1)

pub path_again : (ks : List ℕ) → AllBelow 1000 ks → path_of (path_text ks) ≡ Some ks
unfolding path_text is_path_word is_path steps_of
path_again [] h = refl
path_again (k ∷ ks) h =
    let lt = h.0 in
    let n = number k (omega arith) in
    rw (no_root (decimal k) (more_places ks) n.digits n.some, places_cut k ks h.0 h.1, all_places (k ∷ ks) h, values (k ∷ ks) h) refl

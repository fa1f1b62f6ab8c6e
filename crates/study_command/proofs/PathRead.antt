-- Words that are read as paths.
use Rattle.std.proofs.Common.{◌≡◌, ℕ, ◌+◌, ◌<◌, ◌≤◌, true, false, slice_index, take, drop, List, [], ◌∷◌, ◌++◌, length, map, Some, refl, ap, ◌∙◌, arith}
use Rattle.std.specs.Prelude.{codes, ◌==◌}
use Rattle.std.specs.List.{All}
use Rattle.std.proofs.lemmas.List.{length-take}
use Rattle.std.proofs.lemmas.Grind.{common_steps}
use Rattle.std.proofs.lemmas.List.Splits.{length-slice_split, slice_split_at, slice_split_none}
use Rattle.std.specs.List.{list_all}
use Rattle.std.specs.Str.{bytes_eq}
use Rattle.std.specs.Str.Parse.{digits_value}
use Rattle.study_command.specs.Paths.{is_place, place_parsed, places_in, is_path, is_path_word}

-- a path that is not `root` has places
pub other_form : (word : List ℕ) → is_path_word word ≡ true → bytes_eq word (codes "root") ≡ false → list_all is_place (places_in word) ≡ true
unfolding is_path_word is_path
other_form word h e = rw e at h

pub place_is : (part : List ℕ) → is_place part ≡ true → place_parsed part ≡ Some (digits_value 10 part)
unfolding place_parsed
place_is part h = rw h refl

-- the part before the first point, and the rest
pub cut_at : (word : List ℕ) (i : ℕ) → i < length word → slice_index word i ≡ 46
    → ((k : ℕ) → k < i → (slice_index word k == 46) ≡ false)
    → places_in word ≡ take i word ∷ places_in (drop (i + 1) word)
cut_at word i lt point others =
    let is_point = λ (b : ℕ). b == 46 in
    let front : All (λ b. is_point b ≡ false) (take i word) = λ k d less. let other =
    others k (omega (arith, length-take i word)) in grind (arith, common_steps) in
    let whole : word ≡ take i word ++ slice_index word i ∷ drop (i + 1) word = grind (arith, common_steps) in
    ap places_in whole ∙ slice_split_at is_point (take i word) (slice_index word i) (drop (i + 1) word) front (ap is_point point)

pub cut_none : (word : List ℕ) (i : ℕ) → length word ≤ i → ((k : ℕ) → k < i → (slice_index word k == 46) ≡ false) → places_in word ≡ word ∷ []
cut_none word i le others = slice_split_none (λ b. b == 46) word (λ k d less. let other = others k (omega arith) in grind (arith, common_steps))

none_mapped : {A B : Type 0} (f : A → B) (xs : List A) → map f xs ≡ [] → length xs ≡ 0
none_mapped f [] e = refl
none_mapped f (x ∷ xs) e = absurd cc

-- a word that is not `root` has a place
pub some_place : (word : List ℕ) → map (digits_value 10) (places_in word) ≡ [] → ⊥
some_place word e = let n = none_mapped (digits_value 10) (places_in word) e in omega (arith, n, length-slice_split (λ (b : ℕ). b == 46) word)

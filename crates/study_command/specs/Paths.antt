-- Paths as a script writes them.
use Rattle.std.specs.Prelude.{ℕ, Bool, ◌&&◌, ◌||◌, ◌==◌, nat_le, List, [], length, map, codes, Option, Some, None, if◌then◌else◌}
use Rattle.std.specs.List.{list_all, slice_split}
use Rattle.std.specs.Str.{bytes_eq}
use Rattle.std.specs.Str.Parse.{digits_value}
use Rattle.study_notation.specs.Fen.{is_digit}

-- one to three digits
abbrev pub is_place : List ℕ → Bool
is_place part = nat_le 1 (length part) && nat_le (length part) 3 && list_all is_digit part

-- the number that one to three digits spell
unfoldable pub place_parsed : List ℕ → Option ℕ
place_parsed part = if is_place part then Some (digits_value 10 part) else None

-- the parts between points
abbrev pub places_in : List ℕ → List (List ℕ)
places_in word = slice_split (λ b. b == 46) word

-- child places joined by `.`
unfoldable pub is_path : List ℕ → Bool
is_path word = list_all is_place (places_in word)

-- `root`, or a path
unfoldable pub is_path_word : List ℕ → Bool
is_path_word word = bytes_eq word (codes "root") || is_path word

-- the places of the path, from the root on
unfoldable pub steps_of : List ℕ → List ℕ
steps_of word = if bytes_eq word (codes "root") then [] else map (digits_value 10) (places_in word)

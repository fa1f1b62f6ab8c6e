-- Words between blanks, and texts without the spaces at their ends.
use Rattle.std.specs.Prelude.{ℕ, Bool, not, ◌==◌, List, [], ◌∷◌, Option, Some, None}
use Rattle.study_games.specs.Bytes.{is_blank}
use Rattle.study_games.specs.Tokens.{front, behind}
use Rattle.study_games.specs.Symbols.{without_end}

abbrev pub is_inked : ℕ → Bool
is_inked b = not (is_blank b)

-- the word with which the text begins, and the rest
abbrev pub begun_word : List ℕ → Option (List ℕ × List ℕ)
begun_word [] = None
begun_word (b ∷ bs) = Some (front is_inked (b ∷ bs), behind is_inked (b ∷ bs))

-- the first word between blanks, and the rest
unfoldable pub first_word : List ℕ → Option (List ℕ × List ℕ)
first_word text = begun_word (behind is_blank text)

abbrev pub is_space : ℕ → Bool
is_space b = b == 32

-- without the spaces in front
abbrev pub without_spaces : List ℕ → List ℕ
without_spaces text = behind is_space text

-- without the spaces at both ends
abbrev pub trim : List ℕ → List ℕ
trim text = without_end is_space (without_spaces text)

-- Paths as text.
use Rattle.std.specs.Prelude.{ℕ, List, [], ◌∷◌, ◌++◌, codes, decimal}

-- the places after the first one, each after a point
abbrev pub more_places : List ℕ → List ℕ
more_places [] = []
more_places (k ∷ ks) = 46 ∷ (decimal k ++ more_places ks)

-- the text of a path: without leading zeros
unfoldable pub path_text : List ℕ → List ℕ
path_text [] = codes "root"
path_text (k ∷ ks) = decimal k ++ more_places ks

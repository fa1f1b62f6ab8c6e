-- The main line of a study.
use Rattle.std.specs.Prelude.{ℕ, ◌==◌, Bool, true, ◌&&◌, List, [], ◌∷◌}

-- a path of the main line: each of its moves is the first child
abbrev pub is_main : List ℕ → Bool
is_main [] = true
is_main (k ∷ ks) = (k == 0) && is_main ks

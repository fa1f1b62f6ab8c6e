-- Computing the index: the symmetries that bring the white king to a listed square, and the lesser of two numbers.
use Rattle.std.specs.Prelude.{ℕ, Bool, true, false, ◌==◌, nat_lt, List, [], ◌∷◌, map, Option, Some, None, if◌then◌else◌}
use Rattle.study_board.specs.declared.men.Side.{Side}
use Rattle.study_board.specs.declared.men.Man.{Man}
use Rattle.study_board.specs.declared.symmetry.Symmetry.{Symmetry}
use Rattle.study_board.specs.Geometry.{file_of, rank_of}
use Rattle.study_board.specs.Symmetry.{turned_square, turned_man}
use Rattle.study_board.specs.Images.{differ}
use Rattle.study_values.specs.Slots.{man_slot_number}
use Rattle.study_values.specs.Number.{number}

-- the symmetry that brings a square to a listed one, if there is one
unfoldable pub canonical_symmetry : Bool → Bool → Bool → ℕ → Symmetry
canonical_symmetry true diagonal colours s = record { files = nat_lt 3 (file_of s); ranks = false; diagonal = false; colours = colours }
canonical_symmetry false false colours s =
    record { files = nat_lt 3 (file_of s); ranks = differ colours (nat_lt 3 (rank_of s)); diagonal = false; colours = colours }
canonical_symmetry false true colours s =
    record { files = differ colours (nat_lt 3 (file_of s)); ranks = nat_lt 3 (rank_of s); diagonal = true; colours = colours }

-- the last two of four men exchanged
abbrev pub last_two_exchanged : List Man → List Man
last_two_exchanged (a ∷ b ∷ x ∷ y ∷ []) = a ∷ b ∷ y ∷ x ∷ []
last_two_exchanged xs = xs

-- the last two of four men have the same slot
abbrev pub are_like : Bool → List Man → Bool
are_like c (a ∷ b ∷ x ∷ y ∷ []) = man_slot_number c x == man_slot_number c y
are_like c xs = false

-- the lesser of two optional numbers, or the only one
abbrev pub option_min : Option ℕ → Option ℕ → Option ℕ
option_min None b = b
option_min (Some x) None = Some x
option_min (Some x) (Some y) = if nat_lt y x then Some y else Some x

-- the number of men that are turned
unfoldable pub turned_number : Bool → Side → Symmetry → List Man → Option ℕ
turned_number pawns to_move t men = number pawns to_move (map (turned_man t) men)

-- the last of four men goes to a lower square than the man before it
abbrev pub descends : Symmetry → List Man → Bool
descends t (a ∷ b ∷ x ∷ y ∷ []) = nat_lt (turned_square t y.at) (turned_square t x.at)
descends t xs = false

-- the least number by one symmetry, if like men can be exchanged
unfoldable pub least_by : Bool → Side → Symmetry → List Man → Option ℕ
least_by pawns to_move t men =
    if are_like t.colours men then (if descends t men then turned_number pawns to_move t (last_two_exchanged men) else turned_number pawns to_move t men)
    else turned_number pawns to_move t men

-- the least number by the symmetries that bring the first man, the white king, to a listed square
unfoldable pub canonical_number : Bool → Side → Bool → List Man → Option ℕ
canonical_number pawns to_move colours [] = None
canonical_number pawns to_move colours (k ∷ rest) =
    if pawns then least_by pawns to_move (canonical_symmetry pawns false colours k.at) (k ∷ rest)
    else option_min (least_by pawns to_move (canonical_symmetry pawns false colours k.at) (k ∷ rest))
    (least_by pawns to_move (canonical_symmetry pawns true colours k.at) (k ∷ rest))

-- Not part of any public contract: the index as it is computed, first with the men in the order of their slots, then with squares alone.
use Rattle.std.specs.Prelude.{ℕ, ◌+◌, ◌*◌, Bool, true, false, nat_lt, nat_le, List, [], ◌∷◌, map, Option, None, if◌then◌else◌}
use Rattle.std.specs.Option.{option_map}
use Rattle.study_board.specs.declared.men.Side.{Side}
use Rattle.study_board.specs.declared.men.Man.{Man}
use Rattle.study_board.specs.declared.symmetry.Symmetry.{Symmetry}
use Rattle.study_board.specs.Geometry.{file_of, rank_of}
use Rattle.study_board.specs.Symmetry.{turned_square}
use Rattle.study_index.specs.declared.slot_order.PlacedMan.{PlacedMan}
use Rattle.study_values.specs.Slots.{man_slot_number}
use Rattle.study_values.specs.Number.{place, king_places, side_number}
use Rattle.study_values.specs.Canonical.{option_min}

-- a man as its slot and its square
abbrev pub placed_man : Bool → Man → PlacedMan
placed_man c m = record { slot = man_slot_number c m; square = m.at }

-- a placed man inserted after those of no later slot
unfoldable pub put_placed : PlacedMan → List PlacedMan → List PlacedMan
put_placed k [] = k ∷ []
put_placed k (x ∷ xs) = if nat_le x.slot k.slot then x ∷ put_placed k xs else k ∷ x ∷ xs

-- the squares of placed men
abbrev pub squares_placed : List PlacedMan → List ℕ
squares_placed ks = map (λ k. k.square) ks

-- the symmetry that keeps the colours and has the same image of each square as the chosen one
unfoldable pub square_symmetry : Bool → Bool → Bool → ℕ → Symmetry
square_symmetry true diagonal colours s = record { files = nat_lt 3 (file_of s); ranks = colours; diagonal = false; colours = false }
square_symmetry false diagonal colours s = record { files = nat_lt 3 (file_of s); ranks = nat_lt 3 (rank_of s); diagonal = diagonal; colours = false }

-- appends the images of further squares as digits in base 64
abbrev pub counted_at : (ℕ → ℕ) → ℕ → List ℕ → ℕ
counted_at turn n [] = n
counted_at turn n (x ∷ xs) = counted_at turn (n * 64 + turn x) xs

-- the number of the images of squares
unfoldable pub number_at : Bool → Side → (ℕ → ℕ) → List ℕ → Option ℕ
number_at pawns to_move turn [] = None
number_at pawns to_move turn (k ∷ rest) =
    option_map (λ q. counted_at turn (side_number to_move * king_places pawns + q) rest) (place pawns (turn k))

abbrev pub exchanged_at : List ℕ → List ℕ
exchanged_at (a ∷ b ∷ x ∷ y ∷ []) = a ∷ b ∷ y ∷ x ∷ []
exchanged_at xs = xs

abbrev pub descends_at : (ℕ → ℕ) → List ℕ → Bool
descends_at turn (a ∷ b ∷ x ∷ y ∷ []) = nat_lt (turn y) (turn x)
descends_at turn xs = false

-- the least number by one symmetry, if the last two of four squares can be exchanged
unfoldable pub least_turned : Bool → Side → (ℕ → ℕ) → Bool → List ℕ → Option ℕ
least_turned pawns to_move turn like xs =
    if like then (if descends_at turn xs then number_at pawns to_move turn (exchanged_at xs) else number_at pawns to_move turn xs)
    else number_at pawns to_move turn xs

-- the least number by the symmetries that bring the first square to a listed one
unfoldable pub least_at : Bool → Side → Bool → Bool → List ℕ → Option ℕ
least_at pawns to_move colours like [] = None
least_at pawns to_move colours like (k ∷ rest) =
    if pawns then least_turned pawns to_move (turned_square (square_symmetry pawns false colours k)) like (k ∷ rest)
    else option_min (least_turned pawns to_move (turned_square (square_symmetry pawns false colours k)) like (k ∷ rest))
    (least_turned pawns to_move (turned_square (square_symmetry pawns true colours k)) like (k ∷ rest))

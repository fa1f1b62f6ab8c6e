-- Not part of any public contract: the least number of the men that a number encodes, by its squares in base 64.
use Rattle.std.specs.Prelude.{ℕ, ◌+◌, ◌-◌, ◌*◌, ◌/◌, ◌%◌, ◌^◌, Bool, false, not, ◌&&◌, ◌||◌, ◌==◌, nat_lt, List, [], ◌∷◌, map, if◌then◌else◌}
use Rattle.study_board.specs.declared.men.Man.{Man}
use Rattle.study_board.specs.declared.symmetry.Symmetry.{Symmetry}
use Rattle.study_board.specs.Geometry.{file_of, rank_of}
use Rattle.study_board.specs.Symmetry.{mirror_if}
use Rattle.study_index.specs.declared.decoding.Slot.{Slot}
use Rattle.study_index.specs.Decoded.{head}
use Rattle.study_index.specs.Stepped.{square_weight, square_of_slot}

-- a square with its file and its rank exchanged
abbrev pub file_and_rank_swapped : ℕ → ℕ
file_and_rank_swapped x = 8 * (x % 8) + x / 8

-- the number with each square after the first so exchanged
unfoldable pub with_squares_transposed : List Slot → ℕ → ℕ
with_squares_transposed (k ∷ b ∷ []) n = n / 64 * 64 + file_and_rank_swapped (n % 64)
with_squares_transposed (k ∷ b ∷ x ∷ []) n = (n / 64 / 64 * 64 + file_and_rank_swapped (n / 64 % 64)) * 64 + file_and_rank_swapped (n % 64)
with_squares_transposed (k ∷ b ∷ x ∷ y ∷ []) n =
    ((n / 64 / 64 / 64 * 64 + file_and_rank_swapped (n / 64 / 64 % 64)) * 64 + file_and_rank_swapped (n / 64 % 64)) * 64 + file_and_rank_swapped (n % 64)
with_squares_transposed slots n = n

-- the last two squares exchanged
unfoldable pub exchange_last_two : ℕ → ℕ
exchange_last_two n = (n / 64 / 64 * 64 + n % 64) * 64 + n / 64 % 64

-- the last two squares in ascending order, if they are squares of like men
unfoldable pub ascending_if : Bool → ℕ → ℕ
ascending_if like n = if like && nat_lt (n % 64) (n / 64 % 64) then exchange_last_two n else n

abbrev pub lesser_of : ℕ → ℕ → ℕ
lesser_of x y = if nat_lt y x then y else x

-- the places of a1, b2, c3 and d4
abbrev pub is_on_diagonal : ℕ → Bool
is_on_diagonal q = (q == 0) || (q == 4) || (q == 7) || (q == 9)

-- the least number of the men that n encodes
unfoldable pub least_image : Bool → Bool → List Slot → ℕ → ℕ
least_image pawns like slots n =
    if not pawns && is_on_diagonal (head slots n % 10) then lesser_of (ascending_if like n) (ascending_if like (with_squares_transposed slots n))
    else ascending_if like n

-- the symmetry that brings the white king's square to a listed one, without swapping the colours
unfoldable pub king_symmetry : Bool → ℕ → Symmetry
king_symmetry pawns s =
    record {
      files = nat_lt 3 (file_of s);
      ranks = not pawns && nat_lt 3 (rank_of s);
      diagonal = not pawns && nat_lt (mirror_if (nat_lt 3 (file_of s)) (file_of s)) (mirror_if (nat_lt 3 (rank_of s)) (rank_of s));
      colours = false;
    }

-- a number with the side to move and the white king's place replaced
unfoldable pub with_head : List Slot → ℕ → ℕ → ℕ
with_head (k ∷ b ∷ []) h n = h * 64 + n % 64
with_head (k ∷ b ∷ x ∷ []) h n = h * 4096 + n % 4096
with_head (k ∷ b ∷ x ∷ y ∷ []) h n = h * 262144 + n % 262144
with_head slots h n = n

-- one square of a number replaced, with the other side to move, for this number of places of the white king
abbrev pub turned_by : ℕ → ℕ → ℕ → ℕ
turned_by places count n =
    if nat_lt n (places * 64 ^ (count - 1)) then n + places * 64 ^ (count - 1) else n - places * 64 ^ (count - 1)

unfoldable pub stepped_by : ℕ → ℕ → ℕ → ℕ → ℕ → ℕ
stepped_by places count n i a = turned_by places count n + a * square_weight count i - square_of_slot count i n * square_weight count i

-- the squares of men
abbrev pub squares : List Man → List ℕ
squares ms = map (λ m. m.at) ms

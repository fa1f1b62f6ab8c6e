-- The numbers of a position, and its index: the least number, with a bit set if a capture in passing is legal.
use Rattle.std.specs.Prelude.{◌≡◌, ℕ, ◌+◌, ◌*◌, ◌%◌, ◌^◌, ◌≤◌, Bool, true, false, not, ◌&&◌, ◌||◌, ◌==◌}
use Rattle.std.specs.Prelude.{nat_lt, nat_le, List, [], ◌∷◌, length, Option, Some, None, if◌then◌else◌}
use Rattle.std.specs.List.{list_any}
use Rattle.std.specs.Option.{option_map}
use Rattle.study_board.specs.declared.men.Side.{Side}
use Rattle.study_board.specs.declared.men.Side.TheVariants.{White, Black}
use Rattle.study_board.specs.declared.men.Kind.{Kind}
use Rattle.study_board.specs.declared.men.Kind.TheVariants.{Pawn}
use Rattle.study_board.specs.declared.men.Man.{Man}
use Rattle.study_board.specs.declared.symmetry.Symmetry.{Symmetry}
use Rattle.study_board.specs.Geometry.{file_of, rank_of}
use Rattle.study_board.specs.Men.{same_kind, is_pawn}
use Rattle.study_board.specs.Position.{Position}
use Rattle.study_board.specs.Symmetry.{image, admits}
use Rattle.study_material.specs.declared.class.Class.{Class}
use Rattle.study_moves.specs.EnPassant.{has_legal_en_passant}
use Rattle.study_material.specs.Lists.{Lists, is_swapped}
use Rattle.study_material.specs.Class.{lists_of}
use Rattle.study_values.specs.Slots.{IsFilling}

abbrev pub has_pawn : List Man → Bool
has_pawn men = list_any is_pawn men

-- the offset of a rank in the triangle a1, d1, d4: the number of squares on the ranks below, less the rank's first file there; a
-- square's place is its file and this offset
abbrev pub places_before : ℕ → ℕ
places_before n = if n == 0 then 0 else (if n == 1 then 3 else (if n == 2 then 5 else 6))

-- the place of the white king's square, if it is listed: with a pawn the files a to d, otherwise a1 b1 c1 d1 b2 c2 d2 c3 d3 d4
unfoldable pub place : Bool → ℕ → Option ℕ
place true s = if nat_lt (file_of s) 4 then Some (4 * rank_of s + file_of s) else None
place false s =
    if nat_lt (file_of s) 4 && not (nat_lt (file_of s) (rank_of s)) then Some (places_before (rank_of s) + file_of s) else None

-- the number of listed squares
abbrev pub king_places : Bool → ℕ
king_places true = 32
king_places false = 10

abbrev pub side_number : Side → ℕ
side_number White = 0
side_number Black = 1

-- appends the squares of further men as digits in base 64
abbrev pub append_squares : ℕ → List Man → ℕ
append_squares n [] = n
append_squares n (x ∷ xs) = append_squares (n * 64 + x.at) xs

-- the number of a filling, if the first man, the white king, stands on a listed square
unfoldable pub number : Bool → Side → List Man → Option ℕ
number pawns to_move [] = None
number pawns to_move (k ∷ rest) =
    option_map (λ q. append_squares (side_number to_move * king_places pawns + q) rest) (place pawns k.at)

-- a number of the position: the number of a filling with the men of an image, the colours swapped if the class requires it
pub record IsNumber (p : Position) (n : ℕ) : Type 0 where
  pub by : Symmetry
  pub admitted : admits p by ≡ true
  pub colours : by.colours ≡ is_swapped p.men
  pub filling : List Man
  pub fills : IsFilling false (image by p).men filling
  pub is : number (has_pawn p.men) (image by p).to_move filling ≡ Some n

-- the least number of the position, whichever square is passed
pub record IsLeastNumber (p : Position) (n : ℕ) : Type 0 where
  pub number : IsNumber p n
  pub least : (m : ℕ) → IsNumber p m → n ≤ m

-- 16,777,216 more if the bit is set
abbrev pub with_bit : Bool → ℕ → ℕ
with_bit true n = 16777216 + n
with_bit false n = n

abbrev pub has_bit : ℕ → Bool
has_bit n = nat_le 16777216 n

abbrev pub without_bit : ℕ → ℕ
without_bit n = n % 16777216

-- the index: the least number of the position, with the bit set if a capture in passing is legal
pub record IsIndex (p : Position) (n : ℕ) : Type 0 where
  pub number : ℕ
  pub least : IsLeastNumber p number
  pub is : n ≡ with_bit (has_legal_en_passant p) number

abbrev pub kinds_have_pawn : List Kind → Bool
kinds_have_pawn kinds = list_any (λ k. same_kind k Pawn) kinds

abbrev pub class_has_pawn : Class → Bool
class_has_pawn c = kinds_have_pawn (lists_of c).white || kinds_have_pawn (lists_of c).black

-- both sides have a pawn, so that one can capture the other in passing
abbrev pub has_both_pawns : Lists → Bool
has_both_pawns l = kinds_have_pawn l.white && kinds_have_pawn l.black

-- two sides to move, the white king's places, 64 squares for each further man
abbrev pub numbers_of : Class → ℕ
numbers_of c = 2 * king_places (class_has_pawn c) * 64 ^ (1 + length (lists_of c).white + length (lists_of c).black)

-- the number of cells in the table of a class: its numbers, twice as many if the bit can be set
abbrev pub cells_of : Class → ℕ
cells_of c = if has_both_pawns (lists_of c) then 2 * numbers_of c else numbers_of c

-- The rows after one man moves, as sums: a row is the 64 numbers that differ only in the square of the last man.
use Rattle.std.specs.Prelude.{◌≡◌, ℕ, ◌+◌, ◌*◌, ◌<◌, Bool, true, false, not, ◌||◌, Some}
use Rattle.study_board.specs.Position.{Position}
use Rattle.study_material.specs.declared.class.Class.{Class}
use Rattle.study_index.specs.declared.row_index_rule.RowIndexTerms.{RowIndexTerms}
use Rattle.study_index.specs.declared.row_index_rule.RowIndexRule.{RowIndexRule}
use Rattle.study_index.specs.declared.row_index_rule.RowIndexRule.TheVariants.{Sum, LeastImage, King}
use Rattle.study_values.specs.Index.{index_of}
use Rattle.study_index.specs.Decoded.{slots_of, slots_have_pawn}
use Rattle.study_index.specs.Moved.{IsMoved}
use Rattle.study_values.specs.Number.{place, king_places}
use Rattle.study_index.specs.LeastImage.{is_on_diagonal, least_image}
use Rattle.study_index.specs.Stepped.{are_like_slots}
use Rattle.study_index.specs.Departure.{StandsOn}

-- the sum with the man on a
abbrev pub row_with : RowIndexTerms → ℕ → ℕ
row_with t a = t.rest + a * t.weight

-- after the man on x has moved to a, the numbers of the row r become those of the row k, in the same order
abbrev pub IsRowTo : Class → ℕ → ℕ → ℕ → ℕ → Type 0
IsRowTo c r x a k = (y : ℕ) (p : Position) → y < 64 → IsMoved c (64 * r + y) x a p → index_of p ≡ 64 * k + y

-- the row after the man on x has moved to any square a is the sum
abbrev pub IsRowSum : Class → ℕ → ℕ → RowIndexTerms → Type 0
IsRowSum c r x t = (a : ℕ) → a < 64 → IsRowTo c r x a (row_with t a)

-- each number after the man on x has moved to any square a is the least image of the number in the row of the sum
abbrev pub IsLeastOfRowSum : Class → ℕ → ℕ → RowIndexTerms → Type 0
IsLeastOfRowSum c r x t =
    (a y : ℕ) (p : Position) → a < 64 → y < 64 → IsMoved c (64 * r + y) x a p
    → index_of p ≡ least_image (slots_have_pawn (slots_of c)) (are_like_slots (slots_of c)) (slots_of c) (64 * row_with t a + y)

-- k is the sum with the place of a, which is listed, and not on the diagonal if no man is a pawn
abbrev pub IsRowOfKing : Bool → RowIndexTerms → ℕ → ℕ → Type 0
IsRowOfKing pawns t a k =
    (q : ℕ) × (Some q ≡ place pawns a) × (q < king_places pawns) × ((pawns || not (is_on_diagonal q)) ≡ true) × (k ≡ row_with t q)

-- `IsRowSum` for the white king, whose squares count by their places
abbrev pub IsRowSumOfKing : Class → ℕ → ℕ → RowIndexTerms → Type 0
IsRowSumOfKing c r x t = (a k : ℕ) → a < 64 → IsRowOfKing (slots_have_pawn (slots_of c)) t a k → IsRowTo c r x a k

-- after the last man has moved from its square to any square, the numbers of the row r become those of the row k, indexed by that square
abbrev pub IsRowOfLast : Class → ℕ → ℕ → Type 0
IsRowOfLast c r k = (y a : ℕ) (p : Position) → y < 64 → a < 64 → IsMoved c (64 * r + y) y a p → index_of p ≡ 64 * k + a

-- each number of the row encodes the white king on x
abbrev pub IsKingInRow : Class → ℕ → ℕ → Type 0
IsKingInRow c r x = (y : ℕ) → y < 64 → StandsOn c (64 * r + y) 0 x

-- the row, or its numbers, after the man on x has moved can be computed in this way
pub record IsRowFoundBy (c : Class) (r x : ℕ) (way : RowIndexRule) : Type 0 where
  pub sum : (t : RowIndexTerms) → way ≡ Sum t → IsRowSum c r x t
  pub image : (t : RowIndexTerms) → way ≡ LeastImage t → IsLeastOfRowSum c r x t
  pub king : (t : RowIndexTerms) → way ≡ King t → are_like_slots (slots_of c) ≡ false → IsRowSumOfKing c r x t
  pub stands : (t : RowIndexTerms) → way ≡ King t → IsKingInRow c r x

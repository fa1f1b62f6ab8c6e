-- The effect of a move that captures no man and promotes none on the men that a number encodes: one of them stands on
-- another square, and the other side is to move.
use Rattle.std.specs.Prelude.{◌≡◌, ℕ, false, map}
use Rattle.std.specs.List.Sorted.{IsPermutation}
use Rattle.study_board.specs.Men.{other_side, moved_if}
use Rattle.study_board.specs.Position.{Position, IsValid}
use Rattle.study_moves.specs.EnPassant.{has_legal_en_passant}
use Rattle.study_material.specs.declared.class.Class.{Class}
use Rattle.study_values.specs.Number.{without_bit}
use Rattle.study_index.specs.Decoded.{slots_of, decoded_men, decoded_side}

-- p is the position of n, with the man on x put on a and the other side to move, and without a capture in passing
pub record IsMoved (c : Class) (n x a : ℕ) (p : Position) : Type 0 where
  pub valid : IsValid p
  pub men : IsPermutation p.men (map (moved_if x a) (decoded_men (slots_of c) (without_bit n)))
  pub to_move : p.to_move ≡ other_side (decoded_side (slots_of c) (without_bit n))
  pub dead : has_legal_en_passant p ≡ false

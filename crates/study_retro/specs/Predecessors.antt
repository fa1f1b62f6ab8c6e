-- Not part of any public contract: the numbers of the positions from which a move leads to the position of a number, within a class.
use Rattle.std.specs.Prelude.{◌≡◌, ℕ, ◌+◌, ◌<◌, ◌⊎◌, ◌==◌, false, List, Some}
use Rattle.study_board.specs.Geometry.{ranks_apart}
use Rattle.study_board.specs.Position.{Position}
use Rattle.study_board.specs.declared.men.Side.{Side}
use Rattle.study_board.specs.declared.men.Man.{Man}
use Rattle.study_moves.specs.declared.moves.Move.{Move}
use Rattle.study_moves.specs.Rules.{after}
use Rattle.study_moves.specs.Unmoves.{LeadsQuietly, move_from}
use Rattle.study_material.specs.declared.class.Class.{Class}
use Rattle.study_material.specs.Class.{lists_of}
use Rattle.study_values.specs.Number.{has_both_pawns, without_bit}
use Rattle.study_index.specs.Decoded.{slots_of, decoded_men, decoded_side}
use Rattle.study_index.specs.Computed.{position_numbered}
use Rattle.study_values.specs.Index.{index_of}

-- the move leads from a position without a passed square to the position of the number, and n is the number of that position, or of the position with the
-- same men in which a capture in passing is legal
pub record IsNumberBefore (c : Class) (q : Position) (number : ℕ) (m : Move) (n : ℕ) : Type 0 where
  pub from : Position
  pub leads : LeadsQuietly from m q
  pub lands : index_of (after from m) ≡ number
  pub is : (n ≡ index_of from) ⊎ (n ≡ index_of from + 16777216) × ((p : Position) × (position_numbered c n ≡ Some p))

-- n is the number of the one position without a passed square from which the move leads to the position of the number
pub record IsPlainNumber (q : Position) (number : ℕ) (m : Move) (n : ℕ) : Type 0 where
  pub from : Position
  pub leads : LeadsQuietly from m q
  pub lands : index_of (after from m) ≡ number
  pub is : n ≡ index_of from
  pub only : (p : Position) → LeadsQuietly p m q → index_of p ≡ n

pub record ComesBefore (c : Class) (q : Position) (number n : ℕ) : Type 0 where
  pub by : Move
  pub is : IsNumberBefore c q number by n

-- only one side of the class has pawns, or the move is not across two ranks: so it leaves no capture in passing
abbrev pub PassesNone : Class → ℕ → ℕ → Type 0
PassesNone c a x = (has_both_pawns (lists_of c) ≡ false) ⊎ ((ranks_apart a x == 2) ≡ false)

-- no position with the men and the side to move of the number has a legal capture in passing
abbrev pub IsWithoutEnPassant : Class → ℕ → Type 0
IsWithoutEnPassant c n = (p : Position) → position_numbered c (n + 16777216) ≡ Some p → ⊥

-- so a quiet move after which the number is n leaves no capture in passing
abbrev pub LeavesNone : Class → ℕ → ℕ → ℕ → Type 0
LeavesNone c a x n = PassesNone c a x ⊎ IsWithoutEnPassant c n

-- the men and the side to move are those that the number encodes
abbrev pub AreEncoded : Class → ℕ → List Man → Side → Type 0
AreEncoded c number men side = (men ≡ decoded_men (slots_of c) (without_bit number)) × (side ≡ decoded_side (slots_of c) (without_bit number))

-- n is the number of a position from which a quiet move of the man, from a, leads to the position of the number
pub record IsBeforeFrom (c : Class) (number : ℕ) (man : Man) (a n : ℕ) : Type 0 where
  pub to : Position
  pub at : position_numbered c number ≡ Some to
  pub before : IsNumberBefore c to number (move_from man a) n

-- `IsBeforeFrom` from some square; and for some man
abbrev pub IsBeforeBy : Class → ℕ → Man → ℕ → Type 0
IsBeforeBy c number man n = (a : ℕ) × (a < 64) × IsBeforeFrom c number man a n

abbrev pub IsBefore : Class → ℕ → ℕ → Type 0
IsBefore c number n = (man : Man) × IsBeforeBy c number man n

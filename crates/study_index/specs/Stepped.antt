-- The effect of a quiet move on a number, if a man is a pawn: the side to move is turned, and one square is replaced by another.
use Rattle.std.specs.Prelude.{◌≡◌, ℕ, ◌+◌, ◌-◌, ◌*◌, ◌/◌, ◌%◌, ◌^◌, ◌<◌, ◌≤◌, Bool, true, false, ◌==◌, nat_lt, List, [], ◌∷◌, length, if◌then◌else◌}
use Rattle.std.specs.List.Sorted.{IsPermutation}
use Rattle.study_board.specs.declared.men.Man.{Man}
use Rattle.study_board.specs.Men.{other_side}
use Rattle.study_board.specs.Position.{Position, IsValid}
use Rattle.study_moves.specs.EnPassant.{has_legal_en_passant}
use Rattle.study_material.specs.declared.class.Class.{Class}
use Rattle.study_index.specs.declared.decoding.Slot.{Slot}
use Rattle.study_values.specs.Number.{without_bit, cells_of}
use Rattle.study_index.specs.Decoded.{slots_of, slots_have_pawn, number_of_slot, decoded_men, decoded_side}
use Rattle.study_values.specs.Index.{index_of}

-- the man at one place of a list, counted from 0, on another square
abbrev pub moved_to : ℕ → ℕ → List Man → List Man
moved_to i a [] = []
moved_to i a (m ∷ ms) = if i == 0 then record { side = m.side; kind = m.kind; at = a } ∷ ms else m ∷ moved_to (i - 1) a ms

-- the weight of a slot's square in a number with so many slots: 64 for each slot after it, multiplied
abbrev pub square_weight : ℕ → ℕ → ℕ
square_weight count i = 64 ^ (count - 1 - i)

-- the weight of the side to move in a number with so many slots, if a man is a pawn
abbrev pub side_weight : ℕ → ℕ
side_weight count = 32 * 64 ^ (count - 1)

-- the square that a number encodes for a slot after the first
abbrev pub square_of_slot : ℕ → ℕ → ℕ → ℕ
square_of_slot count i n = n / square_weight count i % 64

-- the number with the other side to move
abbrev pub with_side_swapped : ℕ → ℕ → ℕ
with_side_swapped count n = if nat_lt n (side_weight count) then n + side_weight count else n - side_weight count

-- the number with the other side to move and the man of slot i on square a
unfoldable pub number_after_step : ℕ → ℕ → ℕ → ℕ → ℕ
number_after_step count n i a = with_side_swapped count n + a * square_weight count i - square_of_slot count i n * square_weight count i

-- the last two of four slots have like men
abbrev pub are_like_slots : List Slot → Bool
are_like_slots (k ∷ b ∷ x ∷ y ∷ []) = number_of_slot x == number_of_slot y
are_like_slots slots = false

-- p is the position of n, with the man of slot i on square a and the other side to move, and without a capture in passing
pub record IsStepped (c : Class) (n i a : ℕ) (p : Position) : Type 0 where
  pub valid : IsValid p
  pub men : IsPermutation p.men (moved_to i a (decoded_men (slots_of c) (without_bit n)))
  pub to_move : p.to_move ≡ other_side (decoded_side (slots_of c) (without_bit n))
  pub dead : has_legal_en_passant p ≡ false

-- for classes with a pawn and no like men, and any man but the white king
abbrev pub NumbersStep : Type 0
NumbersStep =
    (c : Class) (n i a : ℕ) (p : Position) → slots_have_pawn (slots_of c) ≡ true → are_like_slots (slots_of c) ≡ false
    → n < cells_of c → 1 ≤ i → i < length (slots_of c) → IsStepped c n i a p
    → index_of p ≡ number_after_step (length (slots_of c)) (without_bit n) i a

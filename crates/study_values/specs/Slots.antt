-- The slots of a position, and the orders of its men that fill them.
use Rattle.std.specs.Prelude.{ℕ, ◌≤◌, Bool, List, [], ◌∷◌}
use Rattle.std.specs.List.Sorted.{IsPermutation}
use Rattle.study_board.specs.declared.men.Side.{Side}
use Rattle.study_board.specs.declared.men.Side.TheVariants.{White, Black}
use Rattle.study_board.specs.declared.men.Kind.{Kind}
use Rattle.study_board.specs.declared.men.Kind.TheVariants.{King, Queen, Rook, Bishop, Knight, Pawn}
use Rattle.study_board.specs.declared.men.Man.{Man}
use Rattle.study_board.specs.Symmetry.{turned_side}

-- the order of the slots: both kings, White's men in list order, Black's men in list order
abbrev pub slot_number : Side → Kind → ℕ
slot_number White King = 0
slot_number Black King = 1
slot_number White Queen = 2
slot_number White Rook = 3
slot_number White Bishop = 4
slot_number White Knight = 5
slot_number White Pawn = 6
slot_number Black Queen = 7
slot_number Black Rook = 8
slot_number Black Bishop = 9
slot_number Black Knight = 10
slot_number Black Pawn = 11

-- the slot of a man, with the colours swapped or not
unfoldable pub man_slot_number : Bool → Man → ℕ
man_slot_number colours m = slot_number (turned_side colours m.side) m.kind

-- no man of the list has a slot before n
abbrev pub NoneBefore : Bool → ℕ → List Man → Type 0
NoneBefore colours n [] = Unit {0}
NoneBefore colours n (x ∷ xs) = (n ≤ man_slot_number colours x) × NoneBefore colours n xs

-- the men stand in the order of their slots; like men in either order
abbrev pub IsInSlots : Bool → List Man → Type 0
IsInSlots colours [] = Unit {0}
IsInSlots colours (x ∷ xs) = NoneBefore colours (man_slot_number colours x) xs × IsInSlots colours xs

-- the men, each once, in the order of the slots
pub record IsFilling (colours : Bool) (men filling : List Man) : Type 0 where
  pub each_once : IsPermutation men filling
  pub in_slots : IsInSlots colours filling

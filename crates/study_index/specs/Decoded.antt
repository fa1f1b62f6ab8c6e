-- The position read off a number of a class.
use Rattle.std.specs.Prelude.{◌≡◌, ℕ, ◌+◌, ◌-◌, ◌*◌, ◌/◌, ◌%◌, ◌<◌, ◌≤◌, Bool, true, false, ◌==◌, nat_lt}
use Rattle.std.specs.Prelude.{List, [], ◌∷◌, ◌++◌, map, find, Option, Some, None, if◌then◌else◌}
use Rattle.std.specs.List.{list_any}
use Rattle.std.specs.Option.{option_map}
use Rattle.study_board.specs.declared.men.Side.{Side}
use Rattle.study_board.specs.declared.men.Side.TheVariants.{White, Black}
use Rattle.study_board.specs.declared.men.Kind.{Kind}
use Rattle.study_board.specs.declared.men.Kind.TheVariants.{King, Pawn}
use Rattle.study_board.specs.declared.men.Man.{Man}
use Rattle.study_board.specs.Men.{same_kind, is_man, other_side}
use Rattle.std.specs.List.Sorted.{IsPermutation}
use Rattle.study_board.specs.declared.fault.PositionFault.{PositionFault}
use Rattle.study_board.specs.Position.{Position, IsValid, first_fault}
use Rattle.study_material.specs.declared.class.Class.{Class}
use Rattle.study_material.specs.Class.{lists_of}
use Rattle.study_index.specs.declared.decoding.Slot.{Slot}
use Rattle.study_values.specs.Canonical.{canonical_number}
use Rattle.study_values.specs.Slots.{IsFilling, slot_number}
use Rattle.study_values.specs.Number.{number, king_places, has_pawn, has_bit, without_bit, IsIndex}

-- the slot that a man fills
abbrev pub slot_filled : Man → Slot
slot_filled m = record { side = m.side; kind = m.kind }

abbrev pub slot_for : Side → Kind → Slot
slot_for side kind = record { side = side; kind = kind }

-- the slots of a class: the kings, White's men in list order, Black's men in list order
abbrev pub slots_of : Class → List Slot
slots_of c = slot_for White King ∷ slot_for Black King ∷ map (slot_for White) (lists_of c).white ++ map (slot_for Black) (lists_of c).black

-- the square behind a pawn of the side, which it passed if it made a double step
abbrev pub square_behind : Side → ℕ → ℕ
square_behind White x = x - 8
square_behind Black x = x + 8

abbrev pub square_behind_pawn : Side → List Man → Option ℕ
square_behind_pawn side men = option_map (λ m. square_behind side m.at) (find (λ m. is_man side Pawn m) men)

-- if the bit is set, the square behind the pawn of the side not to move is passed
abbrev pub passed_behind : Bool → Side → List Man → Option ℕ
passed_behind true to_move men = square_behind_pawn (other_side to_move) men
passed_behind false to_move men = None

-- the position whose men fill these slots so that n is their number, with the passed square that the bit encodes
pub record IsReadOff (slots : List Slot) (n : ℕ) (q : Position) : Type 0 where
  pub filling : List Man
  pub fills : IsFilling false q.men filling
  pub slots_are : map slot_filled filling ≡ slots
  pub is : number (has_pawn q.men) q.to_move filling ≡ Some (without_bit n)
  pub passed : q.passed ≡ passed_behind (has_bit n) q.to_move filling

-- a valid position that is read off the number, and whose index the number is
pub record IsDecodedAt (slots : List Slot) (n : ℕ) (q : Position) : Type 0 where
  pub valid : IsValid q
  pub read_off : IsReadOff slots n q
  pub index : IsIndex q n

-- `IsDecodedAt` with the slots of the class
abbrev pub IsDecoded : Class → ℕ → Position → Type 0
IsDecoded c n q = IsDecodedAt (slots_of c) n q

-- ---- decoding: the men, their squares and the side that a number encodes, as `position_numbered` uses them

-- the slots in order, two to four, the kings first
abbrev pub number_of_slot : Slot → ℕ
number_of_slot s = slot_number s.side s.kind

abbrev pub AreSlots : List Slot → Type 0
AreSlots (k ∷ b ∷ []) = (number_of_slot k ≡ 0) × (number_of_slot b ≡ 1)
AreSlots (k ∷ b ∷ x ∷ []) = (number_of_slot k ≡ 0) × (number_of_slot b ≡ 1) × (1 < number_of_slot x)
AreSlots (k ∷ b ∷ x ∷ y ∷ []) = (number_of_slot k ≡ 0) × (number_of_slot b ≡ 1) × (1 < number_of_slot x) × (number_of_slot x ≤ number_of_slot y)
AreSlots slots = ⊥

-- the listed square at a place
unfoldable pub listed_square : Bool → ℕ → ℕ
listed_square true q = 8 * (q / 4) + q % 4
listed_square false q = if nat_lt q 4 then q else (if nat_lt q 7 then q + 5 else (if nat_lt q 9 then q + 11 else 27))

abbrev pub slots_have_pawn : List Slot → Bool
slots_have_pawn slots = list_any (λ s. same_kind s.kind Pawn) slots

abbrev pub man : Slot → ℕ → Man
man s x = record { side = s.side; kind = s.kind; at = x }

-- the number without the squares of the slots after the first
abbrev pub head : List Slot → ℕ → ℕ
head (k ∷ b ∷ []) n = n / 64
head (k ∷ b ∷ x ∷ []) n = n / 64 / 64
head (k ∷ b ∷ x ∷ y ∷ []) n = n / 64 / 64 / 64
head slots n = n

-- the men on the squares that the number encodes
abbrev pub men_of : Bool → List Slot → ℕ → List Man
men_of pawns (k ∷ b ∷ []) n = man k (listed_square pawns (n / 64 % king_places pawns)) ∷ man b (n % 64) ∷ []
men_of pawns (k ∷ b ∷ x ∷ []) n =
    man k (listed_square pawns (n / 64 / 64 % king_places pawns)) ∷ man b (n / 64 % 64) ∷ man x (n % 64) ∷ []
men_of pawns (k ∷ b ∷ x ∷ y ∷ []) n =
    man k (listed_square pawns (n / 64 / 64 / 64 % king_places pawns)) ∷ man b (n / 64 / 64 % 64) ∷ man x (n / 64 % 64) ∷ man y (n % 64) ∷ []
men_of pawns slots n = []

abbrev pub side_numbered : ℕ → Side
side_numbered n = if n == 0 then White else Black

-- the number is below the numbers of the class (not part of any public contract)
abbrev pub is_cell : List Slot → ℕ → Bool
is_cell slots n = nat_lt (head slots n / king_places (slots_have_pawn slots)) 2

-- the men and the side to move that a number encodes
abbrev pub decoded_men : List Slot → ℕ → List Man
decoded_men slots n = men_of (slots_have_pawn slots) slots n

abbrev pub decoded_side : List Slot → ℕ → Side
decoded_side slots n = side_numbered (head slots n / king_places (slots_have_pawn slots))

-- the least number of men who stand in the order of their slots
abbrev pub HasLeast : Bool → Side → ℕ → List Man → Type 0
HasLeast pawns to_move n men = canonical_number pawns to_move false men ≡ Some n

-- the position of these men, in some order
pub record IsPlaced (men : List Man) (to_move : Side) (passed : Option ℕ) (q : Position) : Type 0 where
  pub valid : IsValid q
  pub same_men : IsPermutation men q.men
  pub same_side : q.to_move ≡ to_move
  pub same_passed : q.passed ≡ passed

-- these men are not a valid position
pub record IsFaulty (men : List Man) (to_move : Side) (passed : Option ℕ) : Type 0 where
  pub fault : PositionFault
  pub is : first_fault men to_move passed ≡ Some fault

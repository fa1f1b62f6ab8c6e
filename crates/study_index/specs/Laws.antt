-- The laws on which tables rest: each position of a class has a number, and the position read off the number has the same game.
use Rattle.std.specs.Prelude.{◌≡◌, ◌↔◌, ℕ, ◌<◌, false, Some, Contains}
use Rattle.std.specs.List.Sorted.{IsPermutation}
use Rattle.study_board.specs.declared.men.Man.{Man}
use Rattle.study_board.specs.Position.{Position, IsValid}
use Rattle.study_board.specs.Images.{IsImage}
use Rattle.study_moves.specs.EnPassant.{without_idle_passed_square}
use Rattle.study_moves.specs.Game.{IsMate}
use Rattle.study_moves.specs.Laws.{HasSameGame}
use Rattle.study_moves.specs.Alike.{AreAlike, Leads}
use Rattle.study_material.specs.declared.class.Class.{Class}
use Rattle.study_material.specs.Lists.{is_swapped}
use Rattle.study_material.specs.Class.{lists_of, IsOf}
use Rattle.study_material.specs.Needs.{LeadsOn}
use Rattle.study_values.specs.Number.{IsIndex, cells_of, without_bit, has_bit}
use Rattle.study_index.specs.Decoded.{IsDecoded, slots_of, decoded_men, decoded_side, passed_behind}
use Rattle.study_index.specs.Computed.{position_numbered}
use Rattle.study_values.specs.Index.{index_of}

-- positions that are alike, with the colours kept if the lists of the class are equal
pub record AreAlikeIn (c : Class) (p q : Position) : Type 0 where
  pub alike : AreAlike p q
  pub kept : (lists_of c).white ≡ (lists_of c).black → alike.images.by.colours ≡ false

-- the position of a number: a position of the class in list order, without a passed square that is not live, whose index is the number
pub record IsEntry (c : Class) (n : ℕ) (q : Position) : Type 0 where
  pub valid : IsValid q
  pub of_class : IsOf c q
  pub in_order : is_swapped q.men ≡ false
  pub is_bare : without_idle_passed_square q ≡ q
  pub index : IsIndex q n

-- the index as a function
pub record HasIndex (p : Position) : Type 0 where
  pub is : IsIndex p (index_of p)
  pub only : (n : ℕ) → IsIndex p n → n ≡ index_of p

abbrev pub PositionsHaveAnIndex : Type 0
PositionsHaveAnIndex = (p : Position) → IsValid p → HasIndex p

-- the position of a number as a function
abbrev pub NumbersAreRead : Type 0
NumbersAreRead = (c : Class) (n : ℕ) (q : Position) → (position_numbered c n ≡ Some q) ↔ IsDecoded c n q

-- the laws of a class: the index of a position is below the number of cells, and the position read off it is an image of the bare position, and alike to it;
-- positions that are alike have the same index, and like moves
pub record IsNumbered (c : Class) : Type 0 where
  pub below : (n : ℕ) (q : Position) → IsDecoded c n q → n < cells_of c
  pub decoded : (n : ℕ) (q : Position) → IsDecoded c n q → IsEntry c n q
  pub numbered : (p : Position) (n : ℕ) → IsValid p → IsOf c p → IsIndex p n → (q : Position) × IsDecoded c n q × AreAlikeIn c q p
  pub index_below : (p : Position) (n : ℕ) → IsValid p → IsOf c p → IsIndex p n → n < cells_of c
  pub image : (p q : Position) (n : ℕ) → IsValid p → IsOf c p → IsIndex p n → IsDecoded c n q → IsImage (without_idle_passed_square p) q
  pub back : (p q : Position) → AreAlikeIn c p q → AreAlikeIn c q p
  pub move : (p q r : Position) → AreAlikeIn c p q → Leads p r → (s : Position) × Leads q s × AreAlikeIn c r s
  pub mated : (p q : Position) → AreAlikeIn c p q → IsMate p → IsMate q
  pub same_home : (p q : Position) → AreAlikeIn c p q → IsOf c p → IsOf c q
  pub same_index : (p q : Position) (n : ℕ) → AreAlikeIn c p q → IsOf c p → IsIndex p n → IsIndex q n
  pub closed : (p q : Position) → IsValid p → IsOf c p → Leads p q → LeadsOn c q

abbrev pub ClassesAreNumbered : Type 0
ClassesAreNumbered = (c : Class) → IsNumbered c

-- positions that are alike are of the same class and have the same game
pub record AgreeAlike (p q : Position) : Type 0 where
  pub same_home : (c : Class) → IsOf c p → IsOf c q
  pub same_game : HasSameGame p q

abbrev pub AlikeAgree : Type 0
AlikeAgree = (p q : Position) → AreAlike p q → AgreeAlike p q

-- the men of a position as its number encodes them, one for each slot; the side to move; and the passed square
pub record IsEncodedBy (c : Class) (n : ℕ) (q : Position) : Type 0 where
  pub men : IsPermutation (decoded_men (slots_of c) (without_bit n)) q.men
  pub same : (m : Man) → Contains (decoded_men (slots_of c) (without_bit n)) m ↔ Contains q.men m
  pub to_move : q.to_move ≡ decoded_side (slots_of c) (without_bit n)
  pub passed : q.passed ≡ passed_behind (has_bit n) (decoded_side (slots_of c) (without_bit n)) (decoded_men (slots_of c) (without_bit n))

abbrev pub NumbersTell : Type 0
NumbersTell = (c : Class) (n : ℕ) (q : Position) → position_numbered c n ≡ Some q → IsEncodedBy c n q

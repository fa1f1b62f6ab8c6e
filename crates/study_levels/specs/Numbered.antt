-- Not part of any public contract: a game whose positions have numbers, and the meaning of a table of its cells.
use Rattle.std.specs.Prelude.{◌≡◌, ◌≢◌, ℕ, ◌+◌, ◌*◌, ◌<◌, Bool, true, false, IsTrue, List, slice_index, Option, Some}
use Rattle.study_board.specs.Sets.{has}
use Rattle.study_moves.specs.declared.moves.Move.{Move}
use Rattle.study_values.specs.declared.value.Value.{Value}
use Rattle.study_levels.specs.declared.game.Location.{Location}
use Rattle.study_table.specs.Forced.{LeadsBy, Mated, GivesValue, GivesOutside}
use Rattle.study_values.specs.Cells.{label_of}
use Rattle.study_table.specs.Class.{IsClass}
use Rattle.study_levels.specs.Places.{IsPlace}
use Rattle.study_table.specs.Right.{AreRight, IsRightOutside, IsGivenCell, IsOtherCell, HasFar}
use Rattle.study_levels.specs.Propagation.{LeadsTo, IsLostBy, TellsWins, IsHeldCell, AreBoundedCells, IsSetBy}

-- The positions of a class, by numbers, and the moves among them and out of the class.
pub record Numbered (P : Type 0) : Type 1 where
  -- the rules
  pub legal : P → Move → Type 0
  pub after : P → Move → P
  pub mate : P → Type 0
  -- the number of numbers, and the position of a number
  pub size : ℕ
  pub position : ℕ → Option P
  -- a position of the class, and its number
  pub home : P → Bool
  pub index : P → ℕ
  -- a position of the class, or one that a move may lead to from there
  pub known : P → Type 0
  -- the value of a known position outside the class
  pub outside : P → Value
  -- two positions that are the same up to a symmetry of the board
  pub image : P → P → Type 0

module _ {P : Type 0} where
  -- a legal move leads from one position to the other
  abbrev pub leads_in : Numbered P → P → P → Type 0
  leads_in g = LeadsBy g.legal g.after

  -- the laws that numbers, moves and images obey
  abbrev pub IsNumberedClass : Numbered P → Type 0
  IsNumberedClass g = IsClass (leads_in g) g.mate g.known g.home g.index g.outside g.position g.size g.image

  -- known values outside the class are the game's
  abbrev pub OutsideIsRight : Numbered P → Type 0
  OutsideIsRight g = IsRightOutside (leads_in g) g.mate g.known g.home g.outside

  -- the location of a position's value
  abbrev pub StandsAt : Numbered P → P → Location → Type 0
  StandsAt g p place = IsPlace g.home g.index g.outside g.size p place

  -- the value of a position: from its cell if it is in the class, otherwise from the value known outside
  abbrev pub label_by : Numbered P → List ℕ → P → Value
  label_by g cells = label_of g.home g.index g.outside cells

  -- a move leads from the position of n to a position of the class whose number is m
  abbrev pub StepLeads : Numbered P → ℕ → ℕ → Type 0
  StepLeads g n m = LeadsTo (leads_in g) g.home g.index g.position n m

  -- a move leads from the position of n to a position whose number is in the row and whose square is in the set
  abbrev pub LeadsIntoRow : Numbered P → ℕ → ℕ → ℕ → Type 0
  LeadsIntoRow g row set n = (y : ℕ) × (y < 64) × (has set y ≡ true) × StepLeads g n (64 * row + y)

  -- a number has a position
  abbrev pub HasPosition : Numbered P → ℕ → Type 0
  HasPosition g n = (p : P) × (g.position n ≡ Some p)

  -- the numbers of a row whose squares are in the set have positions: a row is 64 numbers, one for each square
  abbrev pub HavePositions : Numbered P → ℕ → ℕ → Type 0
  HavePositions g row set = (y : ℕ) → y < 64 → has set y ≡ true → HasPosition g (64 * row + y)

  -- each number whose cell is not 0 has a position
  abbrev pub CellsHavePositions : Numbered P → List ℕ → Type 0
  CellsHavePositions g cells = (i : ℕ) → slice_index cells i ≢ 0 → HasPosition g i

  -- the side to move is mated within k plies, whatever it plays
  abbrev pub IsMatedWithin : Numbered P → ℕ → P → Type 0
  IsMatedWithin g k p = Mated (leads_in g) g.mate p k

  -- p has a move, and each leads to a win within k plies by the cells
  abbrev pub LosesBy : Numbered P → List ℕ → ℕ → P → Type 0
  LosesBy g cells k p = IsLostBy (leads_in g) (label_by g cells) k p

  -- the value of a position by the cells
  abbrev pub CellsGive : Numbered P → List ℕ → P → Value → Type 0
  CellsGive g cells p v = GivesValue (leads_in g) g.mate (label_by g cells) p v

  -- its value by the moves out of the class alone
  abbrev pub OutsideGives : Numbered P → P → Value → Type 0
  OutsideGives g p v = GivesOutside (leads_in g) g.home g.outside p v

  -- the cell of a number has the value that the cells give it; or another value
  abbrev pub IsGivenAt : Numbered P → List ℕ → ℕ → Type 0
  IsGivenAt g cells n = IsGivenCell (leads_in g) g.mate (label_by g cells) (g.position n) (slice_index cells n)

  abbrev pub IsOtherAt : Numbered P → List ℕ → ℕ → Type 0
  IsOtherAt g cells n = IsOtherCell (leads_in g) g.mate (label_by g cells) (g.position n) (slice_index cells n)

  -- the cells encode a win within k plies exactly for the positions won within k plies
  abbrev pub TellWins : Numbered P → ℕ → List ℕ → Type 0
  TellWins g k cells = TellsWins (leads_in g) g.mate k g.position cells

  -- the meaning of cells when the mates within k plies are set, and no others
  abbrev pub CellIsHeld : Numbered P → Bool → ℕ → ℕ → ℕ → Type 0
  CellIsHeld g far k n c = IsHeldCell (leads_in g) g.mate g.home far k (g.position n) c

  -- nothing is known at the numbers of a row whose squares are in the set: a row is 64 numbers, one for each square
  abbrev pub IsUnknownIn : Numbered P → ℕ → ℕ → Type 0
  IsUnknownIn g row set = OutsideIsRight g → (y : ℕ) → y < 64 → has set y ≡ true → CellIsHeld g false 0 (64 * row + y) 0

  abbrev pub CellsAreHeld : Numbered P → Bool → ℕ → List ℕ → Type 0
  CellsAreHeld g far k cells = AreBoundedCells (leads_in g) g.mate g.home far k g.position g.size cells

  -- each cell has the game's value of its position
  abbrev pub CellsAreRight : Numbered P → List ℕ → Type 0
  CellsAreRight g cells = AreRight (leads_in g) g.mate g.position g.size cells

  -- some position of the class is mate in more than 254 plies
  abbrev pub HasFarMate : Numbered P → Type 0
  HasFarMate g = HasFar (leads_in g) g.mate g.known g.home

  -- ---- the promises of the functions of a level

  -- a claim that holds if the values outside the class are right and the cells encode which positions are won within k plies
  abbrev pub WhereWinsAreEncoded : Numbered P → ℕ → List ℕ → Type 0 → Type 0
  WhereWinsAreEncoded g k cells Claim = OutsideIsRight g → TellWins g k cells → Claim

  -- by the cells, no position of n loses within k plies
  abbrev pub NoLossBy : Numbered P → List ℕ → ℕ → ℕ → Type 0
  NoLossBy g cells k n = (p : P) → g.position n ≡ Some p → LosesBy g cells k p → ⊥

  -- a cell of n with a mate in one ply more than k is true; and such a cell stays if it is true
  abbrev pub LossIsTrue : Numbered P → ℕ → ℕ → List ℕ → Type 0
  LossIsTrue g k n cells = (p : P) → g.position n ≡ Some p → slice_index cells n ≡ k + 2 → IsMatedWithin g (k + 1) p

  abbrev pub LossIsKept : Numbered P → ℕ → ℕ → List ℕ → List ℕ → Type 0
  LossIsKept g k n old new =
      (p q : P) → g.position n ≡ Some p → leads_in g p q → slice_index old n ≡ k + 2 → IsMatedWithin g (k + 1) p → slice_index new n ≡ k + 2

  -- `LossIsTrue` and `LossIsKept` for the cells of a row
  abbrev pub RowLossesAreTrue : Numbered P → ℕ → ℕ → List ℕ → Type 0
  RowLossesAreTrue g k row cells = (y : ℕ) → y < 64 → LossIsTrue g k (64 * row + y) cells

  abbrev pub RowLossesAreKept : Numbered P → ℕ → ℕ → List ℕ → List ℕ → Type 0
  RowLossesAreKept g k row old new = (y : ℕ) → y < 64 → LossIsKept g k (64 * row + y) old new

  -- `LossIsTrue` and `LossIsKept` for all cells
  abbrev pub LossesAreTrue : Numbered P → ℕ → List ℕ → Type 0
  LossesAreTrue g k cells = (i : ℕ) (p : P) → i < g.size → g.position i ≡ Some p → slice_index cells i ≡ k + 2 → IsMatedWithin g (k + 1) p

  abbrev pub LossesAreKept : Numbered P → ℕ → List ℕ → List ℕ → Type 0
  LossesAreKept g k old new =
      (i : ℕ) (p q : P) → g.position i ≡ Some p → leads_in g p q → slice_index old i ≡ k + 2 → IsMatedWithin g (k + 1) p → slice_index new i ≡ k + 2

  -- from cells in which the mates within k plies are set to cells in which the mates within j plies are
  abbrev pub RaisesLevel : Numbered P → ℕ → ℕ → List ℕ → List ℕ → Type 0
  RaisesLevel g k j old new = OutsideIsRight g → (far : Bool) → CellsAreHeld g far k old → CellsAreHeld g far j new

  -- once no cell has a mate to come, all cells are right
  abbrev pub EndsRight : Numbered P → Bool → List ℕ → List ℕ → Type 0
  EndsRight g silent old new = OutsideIsRight g → CellsAreHeld g false 0 old → IsTrue silent → CellsAreRight g new

  -- the positions before each win in k plies are marked; those before each loss in k plies are set
  abbrev pub WinsGoBack : Numbered P → ℕ → List ℕ → List ℕ → Type 0
  WinsGoBack g k old new = (i j : ℕ) → j < g.size → slice_index old j ≡ k + 1 → StepLeads g i j → slice_index new i ≢ 0

  abbrev pub LossesGoBack : Numbered P → ℕ → List ℕ → List ℕ → Type 0
  LossesGoBack g k old new = (i j : ℕ) → j < g.size → slice_index old j ≡ k + 1 → StepLeads g i j → IsSetBy (k + 2) new i

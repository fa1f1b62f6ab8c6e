-- Not part of any public contract: the invariants of a builder that goes back from decided positions.
use Rattle.std.specs.Prelude.{◌≡◌, ◌≢◌, ◌⊎◌, ℕ, ◌+◌, ◌-◌, ◌%◌, ◌<◌, ◌≤◌, Bool, true, false, List, slice_index, Option, Some, None}
use Rattle.study_table.specs.Forced.{Mated, Mates, IsGame, IsWin}
use Rattle.study_values.specs.Cells.{distance_of, value_of}
use Rattle.study_values.specs.declared.value.Value.{Value}
use Rattle.study_values.specs.declared.value.Value.TheVariants.{Win, Draw}

-- a move leads from the position of n to a position of the class whose number is m
abbrev pub LeadsTo : {P : Type 0} → (P → P → Type 0) → (P → Bool) → (P → ℕ) → (ℕ → Option P) → ℕ → ℕ → Type 0
LeadsTo {P} leads home index position n m = (p : P) × (q : P) × (position n ≡ Some p) × leads p q × (home q ≡ true) × (index q ≡ m)

-- p has a move, and each move leads to a position that is won within k plies by its label
pub record IsLostBy {P : Type 0} (leads : P → P → Type 0) (labels : P → Value) (k : ℕ) (p : P) : Type 0 where
  pub some : (q : P) × leads p q
  pub each : (q : P) → leads p q → (m : ℕ) × (labels q ≡ Win m) × (m ≤ k)

-- the cell of a win within k plies
abbrev pub IsWonCell : ℕ → ℕ → Type 0
IsWonCell k c = (c % 2 ≡ 0) × (c ≢ 0) × (c ≤ k + 1)

-- the cells encode a win within k plies exactly for the positions whose side to move mates within k plies
abbrev pub TellsWins : {P : Type 0} → (P → P → Type 0) → (P → Type 0) → ℕ → (ℕ → Option P) → List ℕ → Type 0
TellsWins {P} leads mate k position cells =
    (n : ℕ) (p : P) → position n ≡ Some p → (IsWonCell k (slice_index cells n) → Mates leads mate p k)
    × (Mates leads mate p k → IsWonCell k (slice_index cells n))

-- The meaning of a cell c when the mates within k plies are set, and no others. A cell of at most k + 1 is right. A greater even one is a mate that a move
-- out of the class forces, though a shorter one may exist; a greater odd one is the time for which moves out of the class put off a mate. `far`: some move
-- out of the class leads to a mate that no cell can encode.
pub record IsHeld {P : Type 0} (leads : P → P → Type 0) (mate : P → Type 0) (home : P → Bool) (far : Bool) (k : ℕ) (p : P) (c : ℕ) : Type 0 where
  pub set : c ≢ 0 → c ≤ k + 1 → IsGame leads mate p (value_of c)
  pub unmating : (c ≡ 0) ⊎ (k + 1 < c) → Mates leads mate p k → ⊥
  pub unmated : (c ≡ 0) ⊎ (k + 1 < c) → Mated leads mate p k → ⊥
  pub wins : k + 1 < c → c % 2 ≡ 0 → Mates leads mate p (c - 1)
  pub lasts : k + 1 < c → c % 2 ≡ 1 → Mated leads mate p (c - 2) → ⊥
  pub won :
      (q : P) (j : ℕ) → (far ≡ true → j < 254) → leads p q → home q ≡ false → Mated leads mate q j → (c % 2 ≡ 0) × (c ≢ 0) × (c ≤ j + 2)
  pub lost :
      (q : P) (j m : ℕ) → (far ≡ true → j < 254) → k ≤ j → leads p q → home q ≡ false → IsWin leads mate q j → Mated leads mate p m → (c % 2 ≡ 1) × (j + 2 ≤ c)

abbrev pub IsHeldCell : {P : Type 0} → (P → P → Type 0) → (P → Type 0) → (P → Bool) → Bool → ℕ → Option P → ℕ → Type 0
IsHeldCell leads mate home far k None c = c ≡ 0
IsHeldCell leads mate home far k (Some p) c = IsHeld leads mate home far k p c

abbrev pub AreBoundedCells : {P : Type 0} → (P → P → Type 0) → (P → Type 0) → (P → Bool) → Bool → ℕ → (ℕ → Option P) → ℕ → List ℕ → Type 0
AreBoundedCells leads mate home far k position size cells = (n : ℕ) → n < size → IsHeldCell leads mate home far k (position n) (slice_index cells n)

-- the cell of a value before the levels, if a cell can encode it
abbrev pub IsInitial : Value → ℕ → Bool → Type 0
IsInitial v c far =
    (v ≡ Draw) × (c ≡ 0) × (far ≡ false)
    ⊎ (v ≢ Draw) × (distance_of v < 255) × (c ≡ distance_of v + 1) × (far ≡ false)
    ⊎ (v ≢ Draw) × (distance_of v ≡ 255) × (c ≡ 0) × (far ≡ true)

-- ---- how cells change within a level

-- cells are set to k + 2, from 0 or from a greater value, for a reason
abbrev pub AreLowered : (ℕ → Type 0) → ℕ → List ℕ → List ℕ → Type 0
AreLowered Why k old new =
    (i : ℕ) → (slice_index new i ≡ slice_index old i) ⊎ Why i × (slice_index new i ≡ k + 2) × ((slice_index old i ≡ 0) ⊎ (k + 2 < slice_index old i))

-- cells are set to k + 2, from 0, for a reason
abbrev pub AreAdded : (ℕ → Type 0) → ℕ → List ℕ → List ℕ → Type 0
AreAdded Why k old new = (i : ℕ) → (slice_index new i ≡ slice_index old i) ⊎ Why i × (slice_index new i ≡ k + 2) × (slice_index old i ≡ 0)

-- cells of k + 2 are set to 0
abbrev pub AreDropped : ℕ → List ℕ → List ℕ → Type 0
AreDropped k old new = (i : ℕ) → (slice_index new i ≡ slice_index old i) ⊎ (slice_index old i ≡ k + 2) × (slice_index new i ≡ 0)

-- the cell at i is set, to at most c
abbrev pub IsSetBy : ℕ → List ℕ → ℕ → Type 0
IsSetBy c cells i = (slice_index cells i ≢ 0) × (slice_index cells i ≤ c)

-- cells are set to c for a reason, from 0 or, if `over`, from a greater value
abbrev pub AreSet : (ℕ → Type 0) → ℕ → Bool → List ℕ → List ℕ → Type 0
AreSet Why c over old new =
    (i : ℕ) → (slice_index new i ≡ slice_index old i)
    ⊎ Why i × (slice_index new i ≡ c) × ((slice_index old i ≡ 0) ⊎ (over ≡ true) × (c < slice_index old i))

-- the cell at i is set, and if `over` to at most c
abbrev pub IsSetWhere : ℕ → Bool → List ℕ → ℕ → Type 0
IsSetWhere c over cells i = (slice_index cells i ≢ 0) × (over ≡ true → slice_index cells i ≤ c)

-- only the cell at n is set to c, from 0 or from a greater value
abbrev pub IsLowered : ℕ → ℕ → List ℕ → List ℕ → Type 0
IsLowered n c old new =
    (i : ℕ) → (slice_index new i ≡ slice_index old i) ⊎ (i ≡ n) × (slice_index new i ≡ c) × ((slice_index old i ≡ 0) ⊎ (c < slice_index old i))

-- only the cell at n is set to c, from 0
abbrev pub IsMarked : ℕ → ℕ → List ℕ → List ℕ → Type 0
IsMarked n c old new = (i : ℕ) → (slice_index new i ≡ slice_index old i) ⊎ (i ≡ n) × (slice_index new i ≡ c) × (slice_index old i ≡ 0)

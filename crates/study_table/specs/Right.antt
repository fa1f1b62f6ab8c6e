-- Not part of any public contract: when the cells of such a game are right.
use Rattle.std.specs.Prelude.{◌≡◌, ◌≢◌, ℕ, ◌<◌, ◌≤◌, List, slice_index, Option, Some, None, Bool, true, false}
use Rattle.study_table.specs.Forced.{IsGame, GivesValue, IsRightBelow}
use Rattle.study_values.specs.Cells.{distance_of, value_of}
use Rattle.study_values.specs.declared.value.Value.{Value}

-- a cell is right: it encodes the game's value of its position, and is 0 if its number has no position
abbrev pub IsRightCell : {P : Type 0} → (P → P → Type 0) → (P → Type 0) → Option P → ℕ → Type 0
IsRightCell leads mate None cell = cell ≡ 0
IsRightCell leads mate (Some p) cell = IsGame leads mate p (value_of cell)

-- each cell is right
abbrev pub AreRight : {P : Type 0} → (P → P → Type 0) → (P → Type 0) → (ℕ → Option P) → ℕ → List ℕ → Type 0
AreRight leads mate position size cells = (n : ℕ) → n < size → IsRightCell leads mate (position n) (slice_index cells n)

-- known values outside the class are the game's
abbrev pub IsRightOutside : {P : Type 0} → (P → P → Type 0) → (P → Type 0) → (P → Type 0) → (P → Bool) → (P → Value) → Type 0
IsRightOutside {P} leads mate known home outside = (p : P) → known p → home p ≡ false → IsGame leads mate p (outside p)

-- a cell encodes the value that the labels after its position's moves give
abbrev pub IsGivenCell : {P : Type 0} → (P → P → Type 0) → (P → Type 0) → (P → Value) → Option P → ℕ → Type 0
IsGivenCell leads mate labels None cell = cell ≡ 0
IsGivenCell leads mate labels (Some p) cell = GivesValue leads mate labels p (value_of cell)

-- a cell encodes another value than the labels after its position's moves give
abbrev pub IsOtherCell : {P : Type 0} → (P → P → Type 0) → (P → Type 0) → (P → Value) → Option P → ℕ → Type 0
IsOtherCell leads mate labels None cell = cell ≢ 0
IsOtherCell leads mate labels (Some p) cell = (v : Value) × GivesValue leads mate labels p v × (v ≢ value_of cell)

-- a cell is not wrong about mates in fewer than k plies
abbrev pub IsRightBelowCell : {P : Type 0} → (P → P → Type 0) → (P → Type 0) → ℕ → Option P → ℕ → Type 0
IsRightBelowCell leads mate k None cell = cell ≡ 0
IsRightBelowCell leads mate k (Some p) cell = IsRightBelow leads mate k p (value_of cell)

-- no cell is wrong about mates in fewer than k plies
abbrev pub AreRightBelow : {P : Type 0} → (P → P → Type 0) → (P → Type 0) → ℕ → (ℕ → Option P) → ℕ → List ℕ → Type 0
AreRightBelow leads mate k position size cells = (n : ℕ) → n < size → IsRightBelowCell leads mate k (position n) (slice_index cells n)

-- no cell encodes a mate in k plies or more
abbrev pub AreNear : ℕ → ℕ → List ℕ → Type 0
AreNear k size cells = (n : ℕ) → n < size → slice_index cells n ≤ k

-- some position of the class is mate in more than 254 plies
abbrev pub HasFar : {P : Type 0} → (P → P → Type 0) → (P → Type 0) → (P → Type 0) → (P → Bool) → Type 0
HasFar {P} leads mate known home = (p : P) × known p × (home p ≡ true) × ((v : Value) × IsGame leads mate p v × (254 < distance_of v))

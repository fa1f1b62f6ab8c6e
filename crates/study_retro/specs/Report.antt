-- The report of a table's cells.
use Rattle.std.specs.Prelude.{◌≡◌, ℕ, ◌<◌, ◌≤◌, max, List, length, slice_index, Option, Some, None}
use Rattle.study_values.specs.declared.value.Value.{Value}
use Rattle.study_values.specs.declared.value.Value.TheVariants.{Win, Loss, Draw}
use Rattle.study_values.specs.Cells.{value_of}

abbrev pub win_of : Value → Option ℕ
win_of (Win n) = Some n
win_of (Loss n) = None
win_of Draw = None

abbrev pub loss_of : Value → Option ℕ
loss_of (Win n) = None
loss_of (Loss n) = Some n
loss_of Draw = None

-- some cell has a distance, as `distance` reads distances off values
pub record Tells (distance : Value → Option ℕ) (cells : List ℕ) (n : ℕ) : Type 0 where
  pub cell : ℕ
  pub inside : cell < length cells
  pub is : distance (value_of (slice_index cells cell)) ≡ Some n

-- the greatest distance of the cells, None if no cell has one
abbrev pub IsGreatest : (Value → Option ℕ) → List ℕ → Option ℕ → Type 0
IsGreatest distance cells None = (n : ℕ) → Tells distance cells n → ⊥
IsGreatest distance cells (Some n) = Tells distance cells n × ((m : ℕ) → Tells distance cells m → m ≤ n)

-- the greater of two optional distances, or the only one
abbrev pub option_max : Option ℕ → Option ℕ → Option ℕ
option_max None b = b
option_max (Some m) None = Some m
option_max (Some m) (Some n) = Some (max m n)

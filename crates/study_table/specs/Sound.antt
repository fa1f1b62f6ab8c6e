-- When a table is right, and when a set of tables is.
use Rattle.std.specs.Prelude.{◌≡◌, ℕ, ◌<◌, List, slice_index, Option, Some, None}
use Rattle.std.specs.List.{Contains}
use Rattle.study_board.specs.Position.{Position, IsValid}
use Rattle.study_material.specs.declared.class.Class.{Class}
use Rattle.study_material.specs.Class.{IsOf}
use Rattle.study_material.specs.Needs.{needs_of}
use Rattle.study_values.specs.Number.{cells_of}
use Rattle.study_index.specs.Computed.{position_numbered}
use Rattle.study_values.specs.Cells.{distance_of, value_of}
use Rattle.study_values.specs.declared.value.Value.{Value}
use Rattle.study_values.specs.Game.{IsValueOf}
use Rattle.study_table.specs.Table.{Table, table_of}

-- a cell encodes the game's value of the position of its number, and is 0 if the number has no position
abbrev pub TellsValue : Option Position → ℕ → Type 0
TellsValue None cell = cell ≡ 0
TellsValue (Some p) cell = IsValueOf p (value_of cell)

-- each cell of the table is right
pub record IsRight (t : Table) : Type 0 where
  pub tells : (n : ℕ) → n < cells_of t.class → TellsValue (position_numbered t.class n) (slice_index t.cells n)

-- the loaded tables that a class needs are right
pub record NeedsAreRight (held : List (Option Table)) (c : Class) : Type 0 where
  pub right : (d : Class) (t : Table) → Contains (needs_of c) d → table_of held d ≡ Some t → IsRight t

-- a valid position of the class whose distance to mate is above 254 plies
pub record IsBeyondMaxDistance (c : Class) (p : Position) (v : Value) : Type 0 where
  pub valid : IsValid p
  pub of_class : IsOf c p
  pub value : IsValueOf p v
  pub far : 254 < distance_of v

abbrev pub HasFarPosition : Class → Type 0
HasFarPosition c = (p : Position) × ((v : Value) × IsBeyondMaxDistance c p v)

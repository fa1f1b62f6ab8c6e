-- The game's value of a position, and the value in loaded tables.
use Rattle.std.specs.Prelude.{List, slice_index, Option, Some, None}
use Rattle.study_board.specs.Position.{Position}
use Rattle.study_material.specs.Class.{class_found}
use Rattle.study_values.specs.declared.value.Value.{Value}
use Rattle.study_values.specs.declared.value.Value.TheVariants.{Draw}
use Rattle.study_values.specs.Cells.{value_of}
use Rattle.study_values.specs.Index.{index_of}
use Rattle.study_table.specs.Table.{Table, table_of}

abbrev pub value_by : Option Table → Position → Value
value_by None p = Draw
value_by (Some t) p = value_of (slice_index t.cells (index_of p))

-- the value in the table of the position's class, if that is loaded
abbrev pub value_in : List (Option Table) → Position → Value
value_in held p = value_by (table_of held (class_found p)) p

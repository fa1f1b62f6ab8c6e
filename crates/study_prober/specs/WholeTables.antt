-- Whole tables as contracts see them.
use Rattle.std.specs.Prelude.{◌≡◌, ℕ, List, slice_index, Option, Some, None, is_some, Ok, Err}
use Rattle.study_board.specs.Position.{Position}
use Rattle.study_material.specs.declared.class.Class.{Class}
use Rattle.study_material.specs.Class.{IsOf}
use Rattle.study_values.specs.Index.{index_of}
use Rattle.study_values.specs.Cells.{value_of}
use Rattle.study_table.specs.Table.{Table, table_of}
use Rattle.study_table.specs.Sound.{IsRight}
use Rattle.study_values.specs.Values.{ProbeAnswer, ValueSource}
use Rattle.study_values.specs.declared.values.ProbeFault.TheVariants.{NoTable}

-- the loaded tables, and the number of probes
pub record Whole : Type 0 where
  pub tables : List (Option Table)
  pub asked : ℕ

-- every loaded table is right
pub record TablesAreRight (held : List (Option Table)) : Type 0 where
  pub right : (c : Class) (t : Table) → table_of held c ≡ Some t → IsRight t

-- the answer of the table of a position's class, if there is one: the value of the position's cell
abbrev pub cell_answer : Option Table → Class → Position → ProbeAnswer
cell_answer None c p = Err (NoTable c)
cell_answer (Some t) c p = Ok (value_of (slice_index t.cells (index_of p)))

-- the answer of these tables for a position
abbrev pub IsCellAnswer : List (Option Table) → Position → ProbeAnswer → Type 0
IsCellAnswer held p answer = (c : Class) → IsOf c p → answer ≡ cell_answer (table_of held c) c p

-- tables in memory as a source of values: none fails
abbrev pub whole_source : ValueSource Whole
whole_source = record {
  is_honest = λ w. TablesAreRight w.tables;
  held = λ w c. is_some (table_of w.tables c);
  gives = λ w p answer. IsCellAnswer w.tables p answer;
  may_fail = λ w c f. ⊥;
  asked_of = λ w. w.asked;
  failed_of = λ w. 0;
}

-- Tables as contracts see them, and sets of tables.
use Rattle.std.specs.Prelude.{◌≡◌, ℕ, ◌<◌, List, length, slice_index_or, Option, Some, None, IsSome}
use Rattle.std.specs.List.{All, Contains}
use Rattle.study_material.specs.declared.class.Class.{Class}
use Rattle.study_material.specs.Class.{class_number}
use Rattle.study_material.specs.Needs.{needs_of}
use Rattle.study_values.specs.Number.{cells_of}

pub record Table : Type 0 where
  pub class : Class
  pub cells : List ℕ

-- a byte for each number of the class
pub record IsComplete (t : Table) : Type 0 where
  pub size : length t.cells ≡ cells_of t.class
  pub bytes : All (λ c. c < 256) t.cells

-- the table of a class, if it is loaded: a set has a place for each class
abbrev pub table_of : List (Option Table) → Class → Option Table
table_of held c = slice_index_or held (class_number c) None

-- the tables of all classes that the class needs are loaded
abbrev pub IsReady : List (Option Table) → Class → Type 0
IsReady held c = (d : Class) → Contains (needs_of c) d → IsSome (table_of held d)

-- each loaded table stands at the place of its class, is complete, and has the tables that it needs
pub record IsClosed (held : List (Option Table)) : Type 0 where
  pub places : length held ≡ 36
  pub class : (c : Class) (t : Table) → table_of held c ≡ Some t → t.class ≡ c
  pub complete : (c : Class) (t : Table) → table_of held c ≡ Some t → IsComplete t
  pub ready : (c : Class) → IsSome (table_of held c) → IsReady held c

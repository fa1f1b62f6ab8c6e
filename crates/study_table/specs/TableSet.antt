-- The tables that a set lacks, and why a table is not added.
use Rattle.std.specs.Prelude.{is_some, List, [], ◌∷◌, Option, Some, None, if◌then◌else◌}
use Rattle.study_material.specs.declared.class.Class.{Class}
use Rattle.study_material.specs.Needs.{needs_of}
use Rattle.study_table.specs.declared.table_set.AddFault.{AddFault}
use Rattle.study_table.specs.declared.table_set.AddFault.TheVariants.{AlreadyHeld, MissingTable}
use Rattle.study_table.specs.Table.{Table, table_of}

-- the first of these classes whose table is not loaded
abbrev pub first_missing : List (Option Table) → List Class → Option Class
first_missing held [] = None
first_missing held (c ∷ cs) = if is_some (table_of held c) then first_missing held cs else Some c

abbrev pub missing_fault : Option Class → Option AddFault
missing_fault None = None
missing_fault (Some c) = Some (MissingTable c)

-- why a table of the class is not added
abbrev pub add_fault : List (Option Table) → Class → Option AddFault
add_fault held c = if is_some (table_of held c) then Some AlreadyHeld else missing_fault (first_missing held (needs_of c))

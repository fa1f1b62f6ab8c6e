-- The file of a class's table, and why it cannot be made.
use Rattle.std.specs.Prelude.{◌≡◌, ◌≢◌, ◌⊎◌, ◌<◌, nat_le, ℕ, Bool, true, false, ◌&&◌, List, [], ◌∷◌, is_some, Option, Some, None, Ok, Err}
use Rattle.std.specs.List.{list_all}
use Rattle.study_material.specs.declared.class.Class.{Class}
use Rattle.study_material.specs.Needs.{size, needs_of, IsNeeded, IsOrder}
use Rattle.study_retro.specs.declared.builder.BuildFault.{BuildFault}
use Rattle.study_retro.specs.declared.builder.BuildFault.TheVariants as build
use Rattle.study_table.specs.Table.{Table, IsComplete, table_of}
use Rattle.study_table.specs.TableSet.{first_missing}
use Rattle.study_table.specs.Sound.{IsRight, HasFarPosition}
use Rattle.study_values.specs.declared.fault.FileFault.TheVariants as file
use Rattle.study_tablefile.specs.Format.{table_text, written_version}
use Rattle.study_tablefile.specs.Reading.{table_read, HasHeader}
use Rattle.study_web.specs.declared.answers.make.MakeFault.{MakeFault}
use Rattle.study_web.specs.declared.answers.make.MakeFault.TheVariants.{MissingTable, File, OtherClass, DistanceTooLarge, OutOfMemory}
use Rattle.study_web.specs.declared.file_spans.FileSpan.{FileSpan}
use Rattle.study_web.specs.Spans.{file_in, IsHonestIn}

-- the file of the right table of a class
pub record IsRightFileOf (c : Class) (text : List ℕ) : Type 0 where
  pub table : Table
  pub of_class : table.class ≡ c
  pub complete : IsComplete table
  pub right : IsRight table
  pub written : text ≡ table_text table written_version

abbrev pub of_build : BuildFault → MakeFault
of_build (build.MissingTable c) = MissingTable c
of_build build.DistanceTooLarge = DistanceTooLarge

-- what is wrong with the file of a class: it is not a table, or is the table of another class; or there is no memory, for the table behind its header or
-- for anything
abbrev pub IsFaultIn : Option (List ℕ) → Class → MakeFault → Type 0
IsFaultIn (Some text) c (File d fault) = (d ≡ c) × ((table_read text ≡ Err fault) ⊎ ((fault ≡ file.OutOfMemory) × HasHeader text))
IsFaultIn (Some text) c OutOfMemory = Unit {0}
IsFaultIn (Some text) c (OtherClass d e) = (d ≡ c) × (t : Table) × (table_read text ≡ Ok t) × (t.class ≡ e) × (e ≢ c)
IsFaultIn file c fault = ⊥

-- the file of a class, if there is one, reads as the class's own table
abbrev pub IsSoundIn : Option (List ℕ) → Class → Type 0
IsSoundIn None c = Unit {0}
IsSoundIn (Some text) c = (t : Table) × (table_read text ≡ Ok t) × (t.class ≡ c)

-- the fault of the first of these classes whose file has one; the file of c itself is not read
abbrev pub IsFirstFault : List FileSpan → List ℕ → Class → List Class → MakeFault → Type 0
IsFirstFault spans bytes c [] fault = ⊥
IsFirstFault spans bytes c (d ∷ ds) fault =
    ((d ≢ c) × IsFaultIn (file_in spans bytes d) d fault)
    ⊎ ((d ≢ c → IsSoundIn (file_in spans bytes d) d) × IsFirstFault spans bytes c ds fault)

-- the same for all classes that c needs, in their order
abbrev pub IsFileFault : List FileSpan → List ℕ → Class → MakeFault → Type 0
IsFileFault spans bytes c fault = (ds : List Class) × IsOrder c ds × IsFirstFault spans bytes c ds fault

-- the files of all other classes that a class needs read as right tables, if they read as tables
abbrev pub HasRightNeeds : List FileSpan → List ℕ → Class → Type 0
HasRightNeeds spans bytes c = (d : Class) → IsNeeded c d → d ≢ c → IsHonestIn false (file_in spans bytes d)

-- the class, or one that it needs, has no file
abbrev pub LacksFile : List FileSpan → List ℕ → Class → Type 0
LacksFile spans bytes c = (d : Class) × IsNeeded c d × (file_in spans bytes d ≡ None)

-- the first of these classes that lacks a file
abbrev pub IsFirstLacking : List FileSpan → List ℕ → List Class → Class → Type 0
IsFirstLacking spans bytes [] d = ⊥
IsFirstLacking spans bytes (e ∷ es) d =
    ((e ≡ d) × LacksFile spans bytes e) ⊎ ((LacksFile spans bytes e → ⊥) × IsFirstLacking spans bytes es d)

-- The first fault among the files of the other classes that are needed, in their order; or the first needed class that has no file, or that needs one
-- without a file; or a position of the class is further from mate than a file can encode, over right files; or there is no memory.
abbrev pub IsMakeFault : List FileSpan → List ℕ → Class → MakeFault → Type 0
IsMakeFault spans bytes c (File d fault) = IsFileFault spans bytes c (File d fault)
IsMakeFault spans bytes c (OtherClass d e) = IsFileFault spans bytes c (OtherClass d e)
IsMakeFault spans bytes c (MissingTable d) = IsFirstLacking spans bytes (needs_of c) d
IsMakeFault spans bytes c DistanceTooLarge = HasRightNeeds spans bytes c → HasFarPosition c
IsMakeFault spans bytes c OutOfMemory = Unit {0}

-- ---- while the tables that a class needs are read

-- each loaded table has a file
abbrev pub HaveFiles : List FileSpan → List ℕ → List (Option Table) → Type 0
HaveFiles spans bytes held = (d : Class) → is_some (table_of held d) ≡ true → is_some (file_in spans bytes d) ≡ true

-- no class comes before a smaller one
abbrev pub is_ascending : List Class → Bool
is_ascending [] = true
is_ascending (c ∷ ds) = list_all (λ d. nat_le (size c) (size d)) ds && is_ascending ds

-- for each class smaller than c a table is loaded, or a file is missing
abbrev pub IsSettled : List FileSpan → List ℕ → Class → List (Option Table) → Class → Type 0
IsSettled spans bytes c held d = size d < size c → (is_some (table_of held d) ≡ true) ⊎ LacksFile spans bytes d

-- the table of a class is loaded after the step, or the class has no file, or a table that it needs was not loaded
abbrev pub IsTaken : List FileSpan → List ℕ → Class → List (Option Table) → List (Option Table) → Type 0
IsTaken spans bytes c old new =
    (is_some (table_of new c) ≡ true) ⊎ (file_in spans bytes c ≡ None) ⊎ ((d : Class) × (first_missing old (needs_of c) ≡ Some d))

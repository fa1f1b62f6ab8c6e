-- Cells of pages, and the source that was asked for them.
use Rattle.std.specs.Prelude.{◌≡◌, ◌⊎◌, ℕ, ◌/◌, ◌%◌, ◌<◌, Bool, true, false, List, length, slice_index, slice_set, Option, Some, Result, Ok, Err, if◌then◌else◌}
use Rattle.study_board.specs.Position.{Position, IsValid}
use Rattle.study_material.specs.declared.class.Class.{Class}
use Rattle.study_material.specs.Class.{IsOf, class_number}
use Rattle.study_text.specs.Counts.{next_count}
use Rattle.study_values.specs.Index.{index_of}
use Rattle.study_values.specs.Cells.{value_of}
use Rattle.study_values.specs.Game.{IsValueOf}
use Rattle.study_values.specs.declared.values.ProbeFault.{ProbeFault}
use Rattle.study_values.specs.declared.values.ProbeFault.TheVariants.{NoTable, TableRead, PageDamaged}
use Rattle.study_prober.specs.declared.open_table.OpenTable.{OpenTable}
use Rattle.study_prober.specs.Sources.{GivesOf, HonestOf, AreHonestAlike, GiveAlike}
use Rattle.study_prober.specs.PagedTables.{held_of}

-- the cells of a page of a class encode the game's values: each position whose cell is on the page has the value of its cell
abbrev pub AreValuesOf : Class → ℕ → List ℕ → Type 0
AreValuesOf c number cells =
    (p : Position) → IsValid p → IsOf c p → index_of p / 4096 ≡ number → IsValueOf p (value_of (slice_index cells (index_of p % 4096)))

-- the page was not read, or was damaged
abbrev pub is_page_fault : {T : Type 0} → Result T ProbeFault → Bool
is_page_fault (Ok x) = false
is_page_fault (Err (NoTable c)) = false
is_page_fault (Err (TableRead f)) = true
is_page_fault (Err (PageDamaged c n)) = true

-- the number of device faults after such an answer
abbrev pub page_faults_after : {T : Type 0} → ℕ → Result T ProbeFault → ℕ
page_faults_after count answer = if is_page_fault answer then next_count count else count

-- the source of the class was asked, and is the same source
pub record IsAskedSource {S : Type 0} (gives : GivesOf S) (honest : HonestOf S) (c : Class) (old new : List (Option (OpenTable S))) : Type 0 where
  pub before : OpenTable S
  pub after : OpenTable S
  pub small : class_number c < length old
  pub was : held_of old c ≡ Some before
  pub is : new ≡ slice_set old (class_number c) (Some after)
  pub header : after.header ≡ before.header
  pub honest_alike : AreHonestAlike honest before.source after.source
  pub give_alike : GiveAlike gives before.source after.source

-- no source was asked but that of the class
abbrev pub IsAskedOnly : {S : Type 0} → GivesOf S → HonestOf S → Class → List (Option (OpenTable S)) → List (Option (OpenTable S)) → Type 0
IsAskedOnly gives honest c old new = (new ≡ old) ⊎ IsAskedSource gives honest c old new

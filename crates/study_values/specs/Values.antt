-- Answers to a probe for a position's value.
use Rattle.std.specs.Prelude.{ℕ, ◌/◌, Bool, true, false, Result, Ok, Err, if◌then◌else◌}
use Rattle.study_board.specs.Position.{Position}
use Rattle.study_material.specs.declared.class.Class.{Class}
use Rattle.study_values.specs.Index.{index_of}
use Rattle.study_values.specs.declared.fault.SourceFault.{SourceFault}
use Rattle.study_values.specs.declared.value.Value.{Value}
use Rattle.study_text.specs.Counts.{next_count}
use Rattle.study_values.specs.declared.values.ProbeFault.{ProbeFault}
use Rattle.study_values.specs.declared.values.ProbeFault.TheVariants.{NoTable, TableRead, PageDamaged}

-- the page of its table that has the cell of a position
abbrev pub page_number : Position → ℕ
page_number p = index_of p / 4096

abbrev pub ProbeAnswer : Type 0
ProbeAnswer = Result Value ProbeFault

-- a page was not read, or was damaged
abbrev pub is_device_fault : ProbeAnswer → Bool
is_device_fault (Ok v) = false
is_device_fault (Err (NoTable c)) = false
is_device_fault (Err (TableRead f)) = true
is_device_fault (Err (PageDamaged c n)) = true

-- the number of device faults after an answer
abbrev pub faults_after : ℕ → ProbeAnswer → ℕ
faults_after count answer = if is_device_fault answer then next_count count else count

-- the fault is no damage to the files: a device may fail, but a table that is opened is the expected one
abbrev pub IsNotDamage : ProbeFault → Type 0
IsNotDamage (NoTable c) = Unit {0}
IsNotDamage (TableRead f) = Unit {0}
IsNotDamage (PageDamaged c n) = ⊥

-- What is known of a source of values in each of its states.
pub record ValueSource (V : Type 0) : Type 1 where
  -- each value that is returned, by the next probe and all later ones, is the game's
  pub is_honest : V → Type 0
  -- a table of the class is loaded
  pub held : V → Class → Bool
  -- the possible answers to the next probe, of this position
  pub gives : V → Position → ProbeAnswer → Type 0
  -- reading a table of this class may fail for this fault, in the next probe or any later one
  pub may_fail : V → Class → SourceFault → Type 0
  -- the number of probes, and of failures of a device or a page
  pub asked_of : V → ℕ
  pub failed_of : V → ℕ

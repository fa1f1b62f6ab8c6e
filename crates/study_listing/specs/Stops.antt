-- Why a list ends before its last position.
use Rattle.study_material.specs.declared.class.Class.{Class}
use Rattle.study_values.specs.Values.{ValueSource}
use Rattle.study_search.specs.Faults.{CanReport}
use Rattle.study_listing.specs.declared.fault.Stop.{Stop}
use Rattle.study_listing.specs.declared.fault.Stop.TheVariants.{Values, TooManyStudies, WriteDevice}

-- a fault is one that the values can report where only these classes are needed
abbrev pub CanStop : {V : Type 0} (source : ValueSource V) → (Class → Type 0) → V → Stop → Type 0
CanStop source Needs v (Values fault) = CanReport source Needs v fault
CanStop source Needs v TooManyStudies = Unit {0}
CanStop source Needs v WriteDevice = Unit {0}

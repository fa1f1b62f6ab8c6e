-- The probes of a call in which each probe depends on the answers before it.
use Rattle.std.specs.Prelude.{◌≡◌, false, List, Result, Ok, Err}
use Rattle.study_board.specs.Position.{Position, IsValid}
use Rattle.study_material.specs.declared.class.Class.{Class}
use Rattle.study_material.specs.Class.{IsOf}
use Rattle.study_material.specs.Needs.{NeedsClass}
use Rattle.study_values.specs.Values.{ProbeAnswer, IsNotDamage, ValueSource}
use Rattle.study_values.specs.declared.values.ProbeFault.{ProbeFault}
use Rattle.study_values.specs.declared.values.ProbeFault.TheVariants.{NoTable}
use Rattle.study_marks.specs.Evaluated.{failures_of}
use Rattle.study_marks.specs.Answers.{WereEvaluated, IsFirstFault}

-- each class of q is a class that p needs
abbrev pub IsReached : Position → Position → Type 0
IsReached p q = IsValid p → (c : Class) → IsOf c q → NeedsClass p c

-- if the answer is that a table is missing, p needs its class
abbrev pub IsWithinNeeds : Position → ProbeAnswer → Type 0
IsWithinNeeds p answer = IsValid p → (c : Class) → answer ≡ Err (NoTable c) → NeedsClass p c

-- the same values, where only positions of the classes that p needs are probed, and no other table is missing
abbrev pub within : {V : Type 0} → Position → ValueSource V → ValueSource V
within p source = record source { gives = λ v q answer. source.gives v q answer × IsReached p q × IsWithinNeeds p answer }

-- Positions were probed one after the other, and each value was read; or each except the last, whose answer was the fault.
abbrev pub HasProbed : {V T : Type 0} → ValueSource V → V → Result T ProbeFault → V → Type 0
HasProbed source old (Ok x) new = (asked : List Position) × WereEvaluated source old asked new
HasProbed source old (Err f) new = (asked : List Position) × IsFirstFault source old asked f new

module _ {V : Type 0} (source : ValueSource V) where
  -- some positions were probed, and each value was read
  pub record AllEvaluated (old new : V) : Type 0 where
    pub evaluated : (asked : List Position) × WereEvaluated source old asked new
    pub failures : source.failed_of new ≡ source.failed_of old
    pub honest : source.is_honest old → source.is_honest new
    pub tables : (c : Class) → source.held new c ≡ source.held old c

  -- some positions were probed, and each value was read except the last, for this fault
  pub record Stopped (old : V) (f : ProbeFault) (new : V) : Type 0 where
    pub evaluated : (asked : List Position) × IsFirstFault source old asked f new
    pub no_value : (c : Class) → f ≡ NoTable c → source.held old c ≡ false
    pub no_damage : source.is_honest old → IsNotDamage f
    pub failures : source.failed_of new ≡ failures_of {T = Unit {0}} (Err f) (source.failed_of old)
    pub honest : source.is_honest old → source.is_honest new
    pub tables : (c : Class) → source.held new c ≡ source.held old c

-- The answers of values, probe after probe.
use Rattle.std.specs.Prelude.{◌≡◌, ◌⊎◌, List, [], ◌∷◌, Ok, Err, IsErrOf}
use Rattle.study_board.specs.Position.{Position, IsValid}
use Rattle.study_text.specs.Counts.{next_count}
use Rattle.study_material.specs.declared.class.Class.{Class}
use Rattle.study_material.specs.Class.{IsOf}
use Rattle.study_values.specs.declared.value.Value.{Value}
use Rattle.study_values.specs.Values.{ProbeAnswer, IsNotDamage, ValueSource}
use Rattle.study_values.specs.declared.fault.SourceFault.{SourceFault}
use Rattle.study_values.specs.declared.values.ProbeFault.{ProbeFault}
use Rattle.study_values.specs.declared.values.ProbeFault.TheVariants as probe
use Rattle.study_marks.specs.declared.refusal.Refusal.{Refusal}
use Rattle.study_marks.specs.declared.refusal.Refusal.TheVariants.{NoSuchNode, RootNotAllowed, AlreadyFirst, IllegalMove}
use Rattle.study_marks.specs.declared.refusal.Refusal.TheVariants.{AlreadyThere, TooDeep, TreeFull, ShiftBroken, TagText}
use Rattle.study_marks.specs.declared.refusal.Refusal.TheVariants.{OutOfMemory, NoTable, TableRead}

module _ {V : Type 0} where
  -- the answer of values to a probe, and their next state: the answer is a possible one and is counted; an unreadable table is one that may fail so, and a
  -- table that may fail in the next state may fail in this one
  pub record Answers (source : ValueSource V) (old : V) (p : Position) (answer : ProbeAnswer) (new : V) : Type 0 where
    pub valid : IsValid p
    pub given : source.gives old p answer
    pub asked : source.asked_of new ≡ next_count (source.asked_of old)
    pub failed_so : (c : Class) (f : SourceFault) → IsOf c p → IsErrOf answer (probe.TableRead f) → source.may_fail old c f
    pub fails_as_before : (c : Class) (f : SourceFault) → source.may_fail new c f → source.may_fail old c f

  -- these positions were probed in order, and each value was read
  abbrev pub WereEvaluated : ValueSource V → V → List Position → V → Type 0
  WereEvaluated source old [] new = new ≡ old
  WereEvaluated source old (p ∷ ps) new = (v : Value) × (mid : V) × Answers source old p (Ok v) mid
      × WereEvaluated source mid ps new

  -- these positions were probed in order, up to the first whose value could not be read; its answer was this fault
  abbrev pub IsFirstFault : ValueSource V → V → List Position → ProbeFault → V → Type 0
  IsFirstFault source old [] f new = ⊥
  IsFirstFault source old (p ∷ ps) f new =
      Answers source old p (Err f) new
      ⊎ ((v : Value) × (mid : V) × Answers source old p (Ok v) mid × IsFirstFault source mid ps f new)

  -- a refusal that comes from the values reports the fault of the first of these that could not be read
  abbrev pub TellsFirstFault : {A : Type 0} → ValueSource V → V → List Position → V
      → Refusal A → Type 0
  TellsFirstFault source old asked new (NoTable c) = IsFirstFault source old asked (probe.NoTable c) new
  TellsFirstFault source old asked new (TableRead f) = IsFirstFault source old asked f new
  TellsFirstFault source old asked new NoSuchNode = Unit {0}
  TellsFirstFault source old asked new RootNotAllowed = Unit {0}
  TellsFirstFault source old asked new AlreadyFirst = Unit {0}
  TellsFirstFault source old asked new IllegalMove = Unit {0}
  TellsFirstFault source old asked new (AlreadyThere k) = Unit {0}
  TellsFirstFault source old asked new TooDeep = Unit {0}
  TellsFirstFault source old asked new TreeFull = Unit {0}
  TellsFirstFault source old asked new (ShiftBroken steps) = Unit {0}
  TellsFirstFault source old asked new TagText = Unit {0}
  TellsFirstFault source old asked new OutOfMemory = Unit {0}

-- a refusal that reports no damaged page
abbrev pub IsUndamaged : {A : Type 0} → Refusal A → Type 0
IsUndamaged (TableRead f) = IsNotDamage f
IsUndamaged (NoTable c) = Unit {0}
IsUndamaged NoSuchNode = Unit {0}
IsUndamaged RootNotAllowed = Unit {0}
IsUndamaged AlreadyFirst = Unit {0}
IsUndamaged IllegalMove = Unit {0}
IsUndamaged (AlreadyThere k) = Unit {0}
IsUndamaged TooDeep = Unit {0}
IsUndamaged TreeFull = Unit {0}
IsUndamaged (ShiftBroken steps) = Unit {0}
IsUndamaged TagText = Unit {0}
IsUndamaged OutOfMemory = Unit {0}

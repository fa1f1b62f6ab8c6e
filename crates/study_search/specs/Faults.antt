-- Which fault can come where positions are evaluated, and what stays the same.
use Rattle.study_values.specs.Values.{ValueSource}
use Rattle.std.specs.Prelude.{◌≡◌, false}
use Rattle.study_board.specs.Position.{Position}
use Rattle.study_material.specs.declared.class.Class.{Class}
use Rattle.study_material.specs.Needs.{NeedsClass}
use Rattle.study_values.specs.declared.fault.SourceFault.{SourceFault}
use Rattle.study_values.specs.declared.values.ProbeFault.{ProbeFault}
use Rattle.study_values.specs.declared.values.ProbeFault.TheVariants.{NoTable, TableRead, PageDamaged}

-- The values can report the fault where only these classes are needed: they hold no table of a class that is needed; or a table of such a class may not be
-- read for this fault. Honest values report no damage.
abbrev pub CanReport : {V : Type 0} (source : ValueSource V) → (Class → Type 0) → V → ProbeFault → Type 0
CanReport source Needs v (NoTable c) = (source.held v c ≡ false) × Needs c
CanReport source Needs v (TableRead f) = (c : Class) × source.may_fail v c f × Needs c
CanReport source Needs v (PageDamaged c n) = source.is_honest v → ⊥

-- the second position needs no class that the first does not
abbrev pub NeedsNoMore : Position → Position → Type 0
NeedsNoMore p q = (c : Class) → NeedsClass q c → NeedsClass p c

-- the same tables are held, and none may fail as it could not before
pub record HasSameTables {V : Type 0} (source : ValueSource V) (old new : V) : Type 0 where
  pub same : (c : Class) → source.held new c ≡ source.held old c
  pub fails : (c : Class) (f : SourceFault) → source.may_fail new c f → source.may_fail old c f

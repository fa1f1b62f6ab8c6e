-- Values with one failing probe.
use Rattle.std.specs.Prelude.{◌≡◌, ◌⊎◌, true, Some, Err}
use Rattle.study_board.specs.Position.{Position}
use Rattle.study_material.specs.declared.class.Class.{Class}
use Rattle.study_material.specs.Class.{IsOf}
use Rattle.study_values.specs.declared.fault.SourceFault.TheVariants.{Device}
use Rattle.study_values.specs.Values.{ProbeAnswer, ValueSource}
use Rattle.study_prober.specs.declared.failing_values.FailingValues.{FailingValues}
use Rattle.study_values.specs.declared.values.ProbeFault.TheVariants.{TableRead}

-- the next probe is the failing one, and a table of the position's class is loaded
pub record FailsNext {V : Type 0} (source : ValueSource V) (w : FailingValues V) (p : Position) : Type 0 where
  pub next : w.fails_at ≡ Some w.asked
  pub class : Class
  pub of_class : IsOf class p
  pub is_held : source.held w.values class ≡ true

-- the possible answers for a position: the device's fault if the probe fails, otherwise an answer that the values may give
pub record IsFailingAnswer {V : Type 0} (source : ValueSource V) (w : FailingValues V) (p : Position) (answer : ProbeAnswer) : Type 0 where
  pub fails : FailsNext source w p → answer ≡ Err (TableRead Device)
  pub passed : (FailsNext source w p → ⊥) → source.gives w.values p answer

-- values of which one probe fails, as a source
abbrev pub failing_source : {V : Type 0} → ValueSource V → ValueSource (FailingValues V)
failing_source source = record {
  is_honest = λ w. source.is_honest w.values;
  held = λ w c. source.held w.values c;
  gives = λ w p answer. IsFailingAnswer source w p answer;
  may_fail = λ w c f. (f ≡ Device) ⊎ source.may_fail w.values c f;
  asked_of = λ w. w.asked;
  failed_of = λ w. w.failures;
}

use Rattle.std.proofs.Common.{◌≡◌, ℕ, ◌<◌}
use Rattle.study_material.specs.declared.class.Class.{Class}
use Rattle.study_facts.specs.Repetition.{IsRepeatableWithin}
use Rattle.study_facts.specs.Asked.{within}
use Rattle.study_facts.proofs.AskedSteps.{SomeEvaluated}
use Rattle.study_facts.proofs.repetition.waste_of_time.Given as goal

abbrev pub invariant-loop-m : goal.invariant-loop-m
invariant-loop-m g l = record {
  none : g.V.Values.source.is_honest l.fn.values → (k : ℕ) → k < l.m → ¬ (IsRepeatableWithin l.line k l.q);
  honest : g.V.Values.source.is_honest l.fn.values → g.V.Values.source.is_honest l.values;
  failures : g.V.Values.source.failed_of l.values ≡ g.V.Values.source.failed_of l.fn.values;
  evaluated : SomeEvaluated (within l.q g.V.Values.source) l.fn.values l.values;
  tables : (c : Class) → g.V.Values.source.held l.values c ≡ g.V.Values.source.held l.fn.values c;
}

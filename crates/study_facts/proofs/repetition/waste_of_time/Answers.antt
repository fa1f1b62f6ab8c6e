use Rattle.std.proofs.Common.{◌∙◌}
use Rattle.study_facts.specs.Asked.{within}
use Rattle.study_facts.proofs.BackSteps.{none-more}
use Rattle.study_facts.proofs.AskedSteps.{evaluated-then, fault-then}
use Rattle.study_facts.proofs.repetition.waste_of_time.Goals as goal

pub returns-in-Err-clause-evaluated : goal.returns-in-Err-clause-evaluated
returns-in-Err-clause-evaluated g c =
    fault-then (within c.args.q.now g.V.Values.source) c.args.values.now c.loop-m.values c.is_repeatable_within.new.values c.in-Err.fault
    c.loop-m.invariant.evaluated c.in-Err.ensures.evaluated

pub returns-in-Ok-true-clause-evaluated : goal.returns-in-Ok-true-clause-evaluated
returns-in-Ok-true-clause-evaluated g c =
    evaluated-then (within c.args.q.now g.V.Values.source) c.args.values.now c.loop-m.values c.is_repeatable_within.new.values
    c.loop-m.invariant.evaluated c.in-Ok-true.ensures.evaluated

pub loop-m-preserved : goal.loop-m-preserved
loop-m-preserved g c = record {
  none = λ h.
      none-more c.args.line.now c.args.q.now c.loop-m.m c.in-Ok-false.field-0 (c.loop-m.invariant.none h) c.in-Ok-false.field-0-test
      (c.in-Ok-false.ensures.game (c.loop-m.invariant.honest h));
  honest = λ h. c.is_repeatable_within.ensures.honest (c.loop-m.invariant.honest h);
  failures = c.in-Ok-false.ensures.failures ∙ c.loop-m.invariant.failures;
  evaluated = evaluated-then (within c.args.q.now g.V.Values.source) c.args.values.now c.loop-m.values c.is_repeatable_within.new.values
      c.loop-m.invariant.evaluated c.in-Ok-false.ensures.evaluated;
  tables = λ k. c.is_repeatable_within.ensures.tables k ∙ c.loop-m.invariant.tables k;
}

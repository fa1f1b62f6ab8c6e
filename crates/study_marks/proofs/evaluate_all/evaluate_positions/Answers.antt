use Rattle.std.proofs.Common.{List, length, sym, subst, arith}
use Rattle.study_board.specs.Position.{Position}
use Rattle.study_marks.specs.Evaluated.{IsProbeFaultOf}
use Rattle.study_marks.specs.Relabelled.{asked_each}
use Rattle.study_marks.proofs.PositionsListed.{IsAsked, asked-next, take-one, no_value-at, asked-at, same-fault, fault-asked}
use Rattle.study_values.specs.Values.{IsNotDamage}
use Rattle.study_marks.specs.Answers.{IsFirstFault}
use Rattle.study_marks.proofs.FaultsReported.{evaluated-next, first-at}
use Rattle.study_marks.proofs.evaluate_all.evaluate_positions.Goals as goal

pub returns-in_err-evaluate_one-clause-no_value : goal.returns-in_err-evaluate_one-clause-no_value
returns-in_err-evaluate_one-clause-no_value g c =
    same-fault c.from_residual.result c.in_err-evaluate_one.field-0.0
    (IsProbeFaultOf (g.V.Values.source.held c.args.values.now) (asked_each c.args.positions.now)) c.from_residual.ensures.1
    (no_value-at _ _ _ _ _ _ _ _ c.args.positions.now c.loop-p.p-index c.p-item.result _ _ c.loop-p.invariant.asked
    c.loop-p-test.true c.p-item.is c.in_err-evaluate_one.field-0.0 c.in_err-evaluate_one.ensures.no_value)

pub returns-in_err-evaluate_one-clause-asked : goal.returns-in_err-evaluate_one-clause-asked
returns-in_err-evaluate_one-clause-asked g c =
    fault-asked c.from_residual.result c.in_err-evaluate_one.field-0.0 (length (asked_each c.args.positions.now))
    (g.V.Values.source.asked_of c.args.values.now) (g.V.Values.source.asked_of c.evaluate_one.new.values) c.from_residual.ensures.1
    (asked-at _ _ _ _ _ _ _ _ c.args.positions.now c.loop-p.p-index c.p-item.result _ _ c.loop-p.invariant.asked
    c.loop-p-test.true c.p-item.is (g.V.Values.source.asked_of c.evaluate_one.new.values) c.in_err-evaluate_one.ensures.asked)

pub loop-p-preserved : goal.loop-p-preserved
loop-p-preserved g c = record {
  asked =
      subst
      (λ (ps : List Position). IsAsked (g.V.Values.source.held c.args.values.now) (g.V.Values.source.held c.evaluate_one.new.values)
      (g.V.Values.source.asked_of c.args.values.now) (g.V.Values.source.asked_of c.evaluate_one.new.values)
      (g.V.Values.source.failed_of c.args.values.now) (g.V.Values.source.failed_of c.evaluate_one.new.values)
      (g.V.Values.source.is_honest c.args.values.now) (g.V.Values.source.is_honest c.evaluate_one.new.values) ps c.args.all.now.items
      c.evaluate_one.new.all.items)
      (sym (take-one c.args.positions.now c.loop-p.p-index c.p-item.result c.loop-p-test.true c.p-item.is))
      (asked-next _ _ _ _ _ _ _ _ _ _ _ _ _ c.p-item.result _ _ _ c.loop-p.invariant.asked
      c.in_ok-evaluate_one.ensures.tables c.in_ok-evaluate_one.ensures.held c.in_ok-evaluate_one.ensures.asked
      c.in_ok-evaluate_one.ensures.failures
      c.in_ok-evaluate_one.ensures.honest c.in_ok-evaluate_one.ensures.game);
  evaluated =
      evaluated-next g.V.Values.source c.args.values.now c.loop-p.values c.evaluate_one.new.values c.args.positions.now
      c.loop-p.p-index c.p-item.result c.loop-p-test.true c.p-item.is c.loop-p.invariant.evaluated c.in_ok-evaluate_one.ensures.evaluated;
  fails = λ d f m. c.loop-p.invariant.fails d f (c.in_ok-evaluate_one.ensures.fails_as_before d f m);
  room = omega (arith, c.loop-p.invariant.room, c.in_ok-evaluate_one.ensures.len, c.in_ok-evaluate_one.ensures.capacity);
}

pub returns-in_err-evaluate_one-clause-first : goal.returns-in_err-evaluate_one-clause-first
returns-in_err-evaluate_one-clause-first g c =
    same-fault c.from_residual.result c.in_err-evaluate_one.field-0.0
    (λ f. IsFirstFault g.V.Values.source c.args.values.now (asked_each c.args.positions.now) f
    c.evaluate_one.new.values)
    c.from_residual.ensures.1
    (first-at g.V.Values.source c.args.values.now c.loop-p.values c.evaluate_one.new.values c.args.positions.now
    c.loop-p.p-index c.p-item.result c.in_err-evaluate_one.field-0.0 c.loop-p-test.true c.p-item.is c.loop-p.invariant.evaluated
    c.in_err-evaluate_one.ensures.first)

pub returns-in_err-evaluate_one-clause-no_damage : goal.returns-in_err-evaluate_one-clause-no_damage
returns-in_err-evaluate_one-clause-no_damage g c = λ h.
    same-fault c.from_residual.result c.in_err-evaluate_one.field-0.0 IsNotDamage c.from_residual.ensures.1
    (c.in_err-evaluate_one.ensures.no_damage (c.loop-p.invariant.asked.stays h))

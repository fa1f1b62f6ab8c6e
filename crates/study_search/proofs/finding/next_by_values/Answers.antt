use Rattle.std.proofs.Common.{rules, arith, ◌≤◌, ◌<◌}
use Rattle.study_search.specs.Finding.{IsFound}
use Rattle.study_search.proofs.Faults.{same_on}
use Rattle.study_search.proofs.AllFound.{none-more}
use Rattle.study_search.proofs.finding.next_by_values.Goals as goal

pub returns-in-Ok-true-clause-game : goal.returns-in-Ok-true-clause-game
returns-in-Ok-true-clause-game g c h =
    let from : c.args.from ≤ c.loop-number.number = search rules in
    let below : c.loop-number.number < c.args.to = search rules in
    (from, below, (c.in-Ok-true.ensures.game (c.loop-number.invariant.honest h)).0 c.in-Ok-true.field-0-test, c.loop-number.invariant.none h)

pub loop-number-preserved : goal.loop-number-preserved
loop-number-preserved g c = record {
  none = λ h.
      none-more (IsFound c.args.search.now) c.args.from c.loop-number.number c.in-Ok-false.field-0 (c.loop-number.invariant.none h)
      c.in-Ok-false.field-0-test (c.in-Ok-false.ensures.game (c.loop-number.invariant.honest h));
  honest = λ h. c.is_found.ensures.honest (c.loop-number.invariant.honest h);
  tables = same_on c.loop-number.invariant.tables c.is_found.ensures.tables;
}

pub returns-clause-game : goal.returns-clause-game
returns-clause-game g c h k from below = c.loop-number.invariant.none h k from (omega (arith, below, c.loop-number-test.false))

use Rattle.std.proofs.Common.{rules, arith, ◌≤◌, ◌<◌}
use Rattle.study_search.specs.ByCells.{IsZugzwangBy}
use Rattle.study_search.proofs.AllFound.{none-more}
use Rattle.study_search.proofs.by_cells.next_by_cells.Goals as goal

pub returns-then-found : goal.returns-then-found
returns-then-found c =
    let from : c.args.from ≤ c.loop-number.number = search rules in
    let below : c.loop-number.number < c.args.to = search rules in
    (from, below, c.is_zugzwang_by-found.ensures.0 c.if-found.true, c.loop-number.invariant)

pub loop-number-preserved : goal.loop-number-preserved
loop-number-preserved c =
    none-more (IsZugzwangBy c.args.class c.args.own.now c.args.other.now) c.args.from c.loop-number.number c.is_zugzwang_by-found.result
    c.loop-number.invariant c.if-found.false c.is_zugzwang_by-found.ensures

pub returns : goal.returns
returns c k from below = c.loop-number.invariant k from (omega (arith, below, c.loop-number-test.false))

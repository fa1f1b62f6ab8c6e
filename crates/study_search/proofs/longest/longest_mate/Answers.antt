use Rattle.std.proofs.Common.{arith, ℕ, ◌+◌, ◌≤◌, Option, sym, subst}
use Rattle.study_values.specs.Number.{cells_of}
use Rattle.study_search.specs.Longest.{MatesAt}
use Rattle.study_search.proofs.Faults.{same_on}
use Rattle.study_search.proofs.LongestFound.{IsLongestBelow, longest-more, longest-all}
use Rattle.study_search.proofs.longest.longest_mate.Goals as goal

pub loop-number-preserved : goal.loop-number-preserved
loop-number-preserved g c = record {
  longest = λ h.
      subst (λ (x : Option ℕ). IsLongestBelow (MatesAt c.args.class c.args.side) (c.loop-number.number + 1) x) (sym c.option_max-longest.ensures)
      (longest-more (MatesAt c.args.class c.args.side) c.loop-number.number c.loop-number.longest c.in-Ok.mate
      (c.loop-number.invariant.longest h) (c.in-Ok.ensures.game (c.loop-number.invariant.honest h)));
  honest = λ h. c.mate_at.ensures.honest (c.loop-number.invariant.honest h);
  tables = same_on c.loop-number.invariant.tables c.mate_at.ensures.tables;
}

pub returns-clause-game : goal.returns-clause-game
returns-clause-game g c h =
    let cells = c.cells-number-end.ensures in
    let past = c.loop-number-test.false in
    let all : cells_of c.args.class ≤ c.loop-number.number = omega (arith, cells, past) in
    longest-all c.args.class c.args.side c.loop-number.number c.loop-number.longest all (c.loop-number.invariant.longest h)

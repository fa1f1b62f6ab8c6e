use Rattle.std.proofs.Common.{◌≡◌, ◌-◌, ◌≤◌, ◌⊎◌}
use Rattle.study_search.specs.Faults.{HasSameTables}
use Rattle.study_listing.specs.Lists.{HasWritten}
use Rattle.study_listing.proofs.listing.list_numbers.Given as goal

abbrev pub invariant-loop-at : goal.invariant-loop-at
invariant-loop-at g l = record {
  within : (l.at ≤ l.numbers.to) ⊎ (l.at ≡ l.numbers.from);
  from : l.numbers.from ≤ l.at;
  few : l.count ≤ l.at;
  written : g.V.Values.source.is_honest l.fn.values
      → HasWritten l.selection l.form l.numbers.from l.at (g.W.Write.contents l.fn.out) (g.W.Write.contents l.out) l.count;
  honest : g.V.Values.source.is_honest l.fn.values → g.V.Values.source.is_honest l.values;
  tables : HasSameTables g.V.Values.source l.fn.values l.values;
}

abbrev pub decreases-loop-at : goal.decreases-loop-at
decreases-loop-at g l = l.numbers.to - l.at

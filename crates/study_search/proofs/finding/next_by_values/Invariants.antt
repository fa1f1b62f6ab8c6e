use Rattle.std.proofs.Common.{ℕ, ◌<◌, ◌≤◌}
use Rattle.study_search.specs.Faults.{HasSameTables}
use Rattle.study_search.specs.Finding.{IsFound}
use Rattle.study_search.proofs.finding.next_by_values.Given as goal

abbrev pub invariant-loop-number : goal.invariant-loop-number
invariant-loop-number g l = record {
  none : g.V.Values.source.is_honest l.fn.values → (k : ℕ) → l.from ≤ k → k < l.number → ¬ (IsFound l.search k);
  honest : g.V.Values.source.is_honest l.fn.values → g.V.Values.source.is_honest l.values;
  tables : HasSameTables g.V.Values.source l.fn.values l.values;
}

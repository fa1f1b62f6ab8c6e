use Rattle.std.proofs.Common.{ℕ, ◌*◌, ◌<◌, ◌≤◌}
use Rattle.study_search.specs.Faults.{HasSameTables}
use Rattle.study_search.specs.Finding.{IsFound}
use Rattle.study_search.proofs.by_cells.next_zugzwang.Given as goal

abbrev pub invariant-loop-page : goal.invariant-loop-page
invariant-loop-page g l = record {
  none : g.V.Values.source.is_honest l.fn.values → (k : ℕ) → l.from ≤ k → k < l.to → k < 4096 * l.page → ¬ (IsFound l.search k);
  honest : g.V.Values.source.is_honest l.fn.values → g.V.Values.source.is_honest l.values;
  tables : HasSameTables g.V.Values.source l.fn.values l.values;
}

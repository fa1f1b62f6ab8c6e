use Rattle.study_search.specs.Faults.{HasSameTables}
use Rattle.study_search.specs.Longest.{MatesAt}
use Rattle.study_search.proofs.LongestFound.{IsLongestBelow}
use Rattle.study_search.proofs.longest.longest_mate.Given as goal

abbrev pub invariant-loop-number : goal.invariant-loop-number
invariant-loop-number g l = record {
  longest : g.V.Values.source.is_honest l.fn.values → IsLongestBelow (MatesAt l.class l.side) l.number l.longest;
  honest : g.V.Values.source.is_honest l.fn.values → g.V.Values.source.is_honest l.values;
  tables : HasSameTables g.V.Values.source l.fn.values l.values;
}

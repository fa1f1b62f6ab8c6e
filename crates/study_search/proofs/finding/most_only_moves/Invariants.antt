use Rattle.study_search.specs.Faults.{HasSameTables}
use Rattle.study_search.specs.OnlyMoves.{HasOnlyMoves}
use Rattle.study_search.proofs.finding.most_only_moves.Given as goal

abbrev pub invariant-loop-n : goal.invariant-loop-n
invariant-loop-n g l = record {
  line : g.V.Values.source.is_honest l.fn.values → HasOnlyMoves l.outcome l.n l.p;
  honest : g.V.Values.source.is_honest l.fn.values → g.V.Values.source.is_honest l.values;
  tables : HasSameTables g.V.Values.source l.fn.values l.values;
}

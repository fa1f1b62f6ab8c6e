use Rattle.std.proofs.Common.{◌≡◌, ℕ, false, List, Some}
use Rattle.std.specs.Io.KnownBytes.{Keeps}
use Rattle.study_import_program.proofs.Streamed.{Reached}
use Rattle.study_import_program.proofs.streaming.import_games.Given as goal

abbrev pub invariant-loop : goal.invariant-loop
invariant-loop g l = record {
  reached : (text : List ℕ) → g.R.Read.remaining l.fn.games ≡ Some text
      → Reached (g.R.Read.remaining l.games) (g.W.Write.contents l.fn.out) (g.W.Write.contents l.out) l.fn.choice l.importer text;
  quiet : l.fn.progress ≡ false → Keeps (g.E.Write.contents l.fn.errors) (g.E.Write.contents l.errors);
}

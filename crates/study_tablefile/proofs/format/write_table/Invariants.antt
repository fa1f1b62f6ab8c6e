use Rattle.std.proofs.Common.{ℕ, length}
use Rattle.study_tablefile.proofs.PagesWritten.{Left}
use Rattle.study_tablefile.proofs.format.write_table.Given as goal

abbrev pub invariant-loop-rest : goal.invariant-loop-rest
invariant-loop-rest g l = (k : ℕ) × Left (g.W.Write.contents l.fn.out) (g.W.Write.contents l.out) l.table l.number l.rest k

abbrev pub decreases-loop-rest : goal.decreases-loop-rest
decreases-loop-rest g l = length l.rest

use Rattle.std.proofs.Common.{◌≡◌, ◌++◌, true, length}
use Rattle.std.specs.Prelude.{map}
use Rattle.study_import.specs.Blocks.{counts_words, count_seen}
use Rattle.study_import.proofs.counts.add_counts.Given as goal

abbrev pub invariant-loop-rest : goal.invariant-loop-rest
invariant-loop-rest g l = l.out ++ counts_words l.first (map count_seen l.rest) ≡ l.fn.out ++ counts_words true (map count_seen l.counts)

abbrev pub decreases-loop-rest : goal.decreases-loop-rest
decreases-loop-rest g l = length l.rest

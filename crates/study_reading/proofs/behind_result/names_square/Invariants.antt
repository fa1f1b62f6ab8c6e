use Rattle.std.proofs.Common.{◌≡◌, length}
use Rattle.study_reading.specs.Behind.{names_square}
use Rattle.study_reading.proofs.behind_result.names_square.Given as goal

abbrev pub invariant-loop-rest : goal.invariant-loop-rest
invariant-loop-rest l = names_square l.rest ≡ names_square l.symbol

abbrev pub decreases-loop-rest : goal.decreases-loop-rest
decreases-loop-rest l = length l.rest

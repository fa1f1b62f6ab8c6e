use Rattle.std.proofs.Common.{◌≡◌, length}
use Rattle.study_games.specs.Symbols.{has_figurine}
use Rattle.study_games.proofs.symbols.has_figurine.Given as goal

abbrev pub invariant-loop-rest : goal.invariant-loop-rest
invariant-loop-rest l = has_figurine l.rest ≡ has_figurine l.text

abbrev pub decreases-loop-rest : goal.decreases-loop-rest
decreases-loop-rest l = length l.rest

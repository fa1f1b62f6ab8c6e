use Rattle.std.proofs.Common.{◌≡◌, ◌+◌, false, length}
use Rattle.study_games.specs.Tokens.{value_end}
use Rattle.study_games.proofs.token.value_len.Given as goal

abbrev pub invariant-loop-rest : goal.invariant-loop-rest
invariant-loop-rest l = (l.n + length l.rest ≡ length l.text) × (value_end l.n l.escaped l.rest ≡ value_end 0 false l.text)

abbrev pub decreases-loop-rest : goal.decreases-loop-rest
decreases-loop-rest l = length l.rest

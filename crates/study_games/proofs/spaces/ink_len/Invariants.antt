use Rattle.std.proofs.Common.{◌≡◌, ◌+◌, length}
use Rattle.study_games.specs.Runs.{is_in}
use Rattle.study_games.specs.Spaces.{ink_len}
use Rattle.study_games.proofs.spaces.ink_len.Given as goal

abbrev pub invariant-loop-rest : goal.invariant-loop-rest
invariant-loop-rest l = (l.n + length l.rest ≡ length l.text) × (l.n + ink_len (is_in l.run) l.before l.rest ≡ ink_len (is_in l.run) l.first l.text)

abbrev pub decreases-loop-rest : goal.decreases-loop-rest
decreases-loop-rest l = length l.rest

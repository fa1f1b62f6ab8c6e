use Rattle.std.proofs.Common.{◌≡◌, ◌++◌, length}
use Rattle.study_games.specs.Header.{unescape}
use Rattle.study_games.proofs.header.unescape.Given as goal

abbrev pub invariant-loop-byte : goal.invariant-loop-byte
invariant-loop-byte g l = l.out ++ unescape l.rest ≡ unescape l.value

abbrev pub decreases-loop-byte : goal.decreases-loop-byte
decreases-loop-byte g l = length l.rest

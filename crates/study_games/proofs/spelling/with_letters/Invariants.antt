use Rattle.std.proofs.Common.{◌≡◌, ◌≤◌, ◌+◌, ◌++◌, length}
use Rattle.arrayvec.specs.ArrayVec.{array_vec_len}
use Rattle.study_games.specs.Symbols.{with_letters}
use Rattle.study_games.proofs.spelling.with_letters.Given as goal

abbrev pub invariant-loop-letter : goal.invariant-loop-letter
invariant-loop-letter l = (l.out.items ++ with_letters l.rest ≡ with_letters l.symbol) × (array_vec_len l.out + length l.rest ≤ 32)

abbrev pub decreases-loop-letter : goal.decreases-loop-letter
decreases-loop-letter l = length l.rest

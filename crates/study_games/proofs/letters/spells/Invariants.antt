use Rattle.std.proofs.Common.{◌≡◌, length}
use Rattle.std.specs.Str.{bytes_eq}
use Rattle.study_games.specs.Symbols.{with_letters}
use Rattle.study_games.proofs.letters.spells.Given as goal

abbrev pub invariant-loop-letter : goal.invariant-loop-letter
invariant-loop-letter l = bytes_eq (with_letters l.rest) l.left ≡ bytes_eq (with_letters l.symbol) l.text

abbrev pub decreases-loop-letter : goal.decreases-loop-letter
decreases-loop-letter l = length l.rest

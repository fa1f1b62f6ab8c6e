use Rattle.std.proofs.Common.{◌≡◌, ◌++◌, length}
use Rattle.std.specs.Prelude.{map}
use Rattle.study_games.specs.Languages.{english_byte}
use Rattle.study_games.proofs.language.add_english.Given as goal

abbrev pub invariant-loop-rest : goal.invariant-loop-rest
invariant-loop-rest g l = l.out ++ map (english_byte l.language) l.rest ≡ l.fn.out ++ map (english_byte l.language) l.bytes

abbrev pub decreases-loop-rest : goal.decreases-loop-rest
decreases-loop-rest g l = length l.rest

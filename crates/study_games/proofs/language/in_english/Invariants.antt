use Rattle.std.proofs.Common.{◌≡◌, ◌++◌, length, true}
use Rattle.study_games.specs.Languages.{english_from}
use Rattle.study_games.proofs.language.in_english.Given as goal

abbrev pub invariant-loop-fuel : goal.invariant-loop-fuel
invariant-loop-fuel g l = l.out ++ english_from l.fuel l.language l.fresh l.rest ≡ english_from (length l.text) l.language true l.text

abbrev pub decreases-loop-fuel : goal.decreases-loop-fuel
decreases-loop-fuel g l = l.fuel

use Rattle.std.proofs.Common.{◌≡◌, ◌++◌, length}
use Rattle.study_games.specs.Ascii.{spelled_in}
use Rattle.study_games.proofs.ascii.spell_out.Given as goal

abbrev pub invariant-loop-fuel : goal.invariant-loop-fuel
invariant-loop-fuel g l = l.out ++ spelled_in l.fuel l.utf8 l.rest ≡ spelled_in (length l.value) l.utf8 l.value

abbrev pub decreases-loop-fuel : goal.decreases-loop-fuel
decreases-loop-fuel g l = l.fuel

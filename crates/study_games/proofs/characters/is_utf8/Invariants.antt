use Rattle.std.proofs.Common.{◌≡◌, length}
use Rattle.study_games.specs.Characters.{begins_utf8}
use Rattle.study_games.proofs.characters.is_utf8.Given as goal

abbrev pub invariant-loop-fuel : goal.invariant-loop-fuel
invariant-loop-fuel l = begins_utf8 l.fuel l.rest ≡ begins_utf8 (length l.text) l.text

abbrev pub decreases-loop-fuel : goal.decreases-loop-fuel
decreases-loop-fuel l = l.fuel

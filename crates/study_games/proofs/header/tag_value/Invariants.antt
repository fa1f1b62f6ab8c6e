use Rattle.std.proofs.Common.{◌≡◌, true, length}
use Rattle.study_games.specs.Header.{tags_in, value_of}
use Rattle.study_games.proofs.header.tag_value.Given as goal

abbrev pub invariant-loop-fuel : goal.invariant-loop-fuel
invariant-loop-fuel l = value_of l.name (tags_in l.fuel l.fresh l.rest) ≡ value_of l.name (tags_in (length l.game) true l.game)

abbrev pub decreases-loop-fuel : goal.decreases-loop-fuel
decreases-loop-fuel l = l.fuel

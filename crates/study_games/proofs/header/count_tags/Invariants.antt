use Rattle.std.proofs.Common.{◌≡◌, ◌+◌, ◌≤◌, true, length}
use Rattle.study_games.specs.Header.{tags_in}
use Rattle.study_games.proofs.header.count_tags.Given as goal

abbrev pub invariant-loop-fuel : goal.invariant-loop-fuel
invariant-loop-fuel l = (l.count + l.fuel ≤ length l.game) × (l.count + length (tags_in l.fuel l.fresh l.rest) ≡ length (tags_in (length l.game) true l.game))

abbrev pub decreases-loop-fuel : goal.decreases-loop-fuel
decreases-loop-fuel l = l.fuel

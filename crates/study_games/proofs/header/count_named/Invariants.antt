use Rattle.std.proofs.Common.{◌≡◌, ◌+◌, ◌≤◌, true, length}
use Rattle.study_games.specs.Header.{named_count, tags_in}
use Rattle.study_games.proofs.header.count_named.Given as goal

abbrev pub invariant-loop-fuel : goal.invariant-loop-fuel
invariant-loop-fuel l =
    (l.count + l.fuel ≤ length l.game)
    × (l.count + named_count l.name (tags_in l.fuel l.fresh l.rest) ≡ named_count l.name (tags_in (length l.game) true l.game))

abbrev pub decreases-loop-fuel : goal.decreases-loop-fuel
decreases-loop-fuel l = l.fuel

use Rattle.std.proofs.Common.{◌≡◌, length, true}
use Rattle.study_games.specs.Closed.{depth_from}
use Rattle.study_games.proofs.closing.depth_in.Given as goal

abbrev pub invariant-loop-fuel : goal.invariant-loop-fuel
invariant-loop-fuel l = depth_from l.fuel l.depth l.fresh l.rest ≡ depth_from (length l.text) 0 true l.text

abbrev pub decreases-loop-fuel : goal.decreases-loop-fuel
decreases-loop-fuel l = l.fuel

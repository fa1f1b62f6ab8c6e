use Rattle.std.proofs.Common.{◌≡◌, length, false}
use Rattle.study_reading.specs.Behind.{moves_left}
use Rattle.study_reading.proofs.behind_result.moves_in.Given as goal

abbrev pub invariant-loop-fuel : goal.invariant-loop-fuel
invariant-loop-fuel l = moves_left l.fuel l.fresh l.rest ≡ moves_left (length l.text) false l.text

abbrev pub decreases-loop-fuel : goal.decreases-loop-fuel
decreases-loop-fuel l = l.fuel

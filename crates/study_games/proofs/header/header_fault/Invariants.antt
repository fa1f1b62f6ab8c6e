use Rattle.std.proofs.Common.{◌≡◌, true, length}
use Rattle.study_games.specs.Header.{fault_in}
use Rattle.study_games.proofs.header.header_fault.Given as goal

abbrev pub invariant-loop-fuel : goal.invariant-loop-fuel
invariant-loop-fuel l = fault_in l.fuel l.fresh l.rest ≡ fault_in (length l.game) true l.game

abbrev pub decreases-loop-fuel : goal.decreases-loop-fuel
decreases-loop-fuel l = l.fuel

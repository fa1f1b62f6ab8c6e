use Rattle.std.proofs.Common.{◌≡◌, length, true}
use Rattle.study_import.specs.Tails.{tail_from, not_begun, sought_seen}
use Rattle.study_import.proofs.tails.add_tail.Given as goal

abbrev pub invariant-loop-fuel : goal.invariant-loop-fuel
invariant-loop-fuel g l =
    tail_from l.fuel l.fresh l.rest (sought_seen l.search l.out l.position) ≡ tail_from (length l.fn.text) true l.fn.text (not_begun l.fn.out)

abbrev pub decreases-loop-fuel : goal.decreases-loop-fuel
decreases-loop-fuel g l = l.fuel

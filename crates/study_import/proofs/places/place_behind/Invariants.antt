use Rattle.std.proofs.Common.{◌≡◌, length}
use Rattle.study_import.specs.Blocks.{place_behind}
use Rattle.study_import.proofs.places.place_behind.Given as goal

abbrev pub invariant-loop-rest : goal.invariant-loop-rest
invariant-loop-rest l = place_behind l.at l.rest ≡ place_behind l.fn.place l.text

abbrev pub decreases-loop-rest : goal.decreases-loop-rest
decreases-loop-rest l = length l.rest

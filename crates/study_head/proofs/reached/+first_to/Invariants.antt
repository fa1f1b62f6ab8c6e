use Rattle.std.specs.Prelude.{length}
use Rattle.study_head.proofs.reached.+first_to.Given as goal

abbrev pub decreases-first_to : goal.decreases-first_to
decreases-first_to l = length l.known.now

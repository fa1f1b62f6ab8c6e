use Rattle.std.proofs.Common.{length}
use Rattle.study_tails.proofs.tails.+has_try.Given as goal

abbrev pub decreases-has_try : goal.decreases-has_try
decreases-has_try l = length l.steps.now

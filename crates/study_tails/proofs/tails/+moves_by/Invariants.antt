use Rattle.std.proofs.Common.{length}
use Rattle.study_tails.proofs.tails.+moves_by.Given as goal

abbrev pub decreases-moves_by : goal.decreases-moves_by
decreases-moves_by l = length l.steps.now

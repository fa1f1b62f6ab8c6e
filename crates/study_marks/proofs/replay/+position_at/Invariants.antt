use Rattle.std.proofs.Common.{length}
use Rattle.study_marks.proofs.replay.+position_at.Given as goal

abbrev pub decreases-position_at : goal.decreases-position_at
decreases-position_at g l = length l.steps.now

use Rattle.std.proofs.Common.{length}
use Rattle.study_marks.proofs.replay.+start_at.Given as goal

abbrev pub decreases-start_at : goal.decreases-start_at
decreases-start_at g l = length l.steps.now

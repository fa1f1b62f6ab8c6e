use Rattle.std.proofs.Common.{length}
use Rattle.study_review.proofs.lines.+count_drawing.Given as goal

abbrev pub decreases-count_drawing : goal.decreases-count_drawing
decreases-count_drawing l = length l.evaluated.now

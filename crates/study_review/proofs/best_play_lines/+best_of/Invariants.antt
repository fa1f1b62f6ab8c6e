use Rattle.std.proofs.Common.{length}
use Rattle.study_review.proofs.best_play_lines.+best_of.Given as goal

abbrev pub decreases-best_of : goal.decreases-best_of
decreases-best_of l = length l.evaluated.now

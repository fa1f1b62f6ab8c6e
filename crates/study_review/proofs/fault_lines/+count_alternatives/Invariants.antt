use Rattle.std.proofs.Common.{length}
use Rattle.study_review.proofs.fault_lines.+count_alternatives.Given as goal

abbrev pub decreases-count_alternatives : goal.decreases-count_alternatives
decreases-count_alternatives l = length l.evaluated.now

use Rattle.std.proofs.Common.{length}
use Rattle.study_review.proofs.fault_lines.+add_alternatives.Given as goal

abbrev pub decreases-add_alternatives : goal.decreases-add_alternatives
decreases-add_alternatives g l = length l.evaluated.now

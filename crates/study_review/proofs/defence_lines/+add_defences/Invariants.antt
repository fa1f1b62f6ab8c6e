use Rattle.std.proofs.Common.{length}
use Rattle.study_review.proofs.defence_lines.+add_defences.Given as goal

abbrev pub decreases-add_defences : goal.decreases-add_defences
decreases-add_defences g l = length l.evaluated.now

use Rattle.std.proofs.Common.{length}
use Rattle.study_review.proofs.defence_lines.+answers_among.Given as goal

abbrev pub decreases-answers_among : goal.decreases-answers_among
decreases-answers_among g l = length l.moves.now

use Rattle.std.proofs.Common.{length}
use Rattle.study_review.proofs.probe.+evaluate_moves.Given as goal

abbrev pub decreases-evaluate_moves : goal.decreases-evaluate_moves
decreases-evaluate_moves g l = length l.moves.now

use Rattle.std.proofs.Common.{length}
use Rattle.study_marks.proofs.evaluate.+tally_moves.Given as goal

abbrev pub decreases-tally_moves : goal.decreases-tally_moves
decreases-tally_moves g l = length l.moves.now

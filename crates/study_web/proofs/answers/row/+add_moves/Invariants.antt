use Rattle.std.proofs.Common.{length}
use Rattle.study_web.proofs.answers.row.+add_moves.Given as goal

abbrev pub decreases-add_moves : goal.decreases-add_moves
decreases-add_moves g l = length l.moves.now

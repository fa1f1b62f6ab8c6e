use Rattle.std.proofs.Common.{length}
use Rattle.study_web.proofs.answers.setup.+add_squares.Given as goal

abbrev pub decreases-add_squares : goal.decreases-add_squares
decreases-add_squares g l = length l.squares.now

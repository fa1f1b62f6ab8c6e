use Rattle.std.proofs.Common.{length}
use Rattle.study_page.proofs.play_rows.+add_moves.Given as goal

abbrev pub decreases-add_moves : goal.decreases-add_moves
decreases-add_moves g l = length l.list.now

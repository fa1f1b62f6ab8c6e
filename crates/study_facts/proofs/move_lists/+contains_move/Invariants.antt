use Rattle.std.proofs.Common.{length}
use Rattle.study_facts.proofs.move_lists.+contains_move.Given as goal

abbrev pub decreases-contains_move : goal.decreases-contains_move
decreases-contains_move l = length l.moves.now

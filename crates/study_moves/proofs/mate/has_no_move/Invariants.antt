use Rattle.std.proofs.Common.{take}
use Rattle.study_moves.proofs.FirstMoves.{NoneMoves}
use Rattle.study_moves.proofs.mate.has_no_move.Given as goal

abbrev pub invariant-loop-man : goal.invariant-loop-man
invariant-loop-man l = NoneMoves l.men l.side (take l.man-index l.men)

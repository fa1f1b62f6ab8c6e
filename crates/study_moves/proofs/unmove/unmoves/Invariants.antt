use Rattle.std.proofs.Common.{take}
use Rattle.study_moves.proofs.LastMoves.{AreOfMen}
use Rattle.study_moves.proofs.unmove.unmoves.Given as goal

abbrev pub invariant-loop-man : goal.invariant-loop-man
invariant-loop-man l = AreOfMen l.q (take l.man-index l.men) l.list.items

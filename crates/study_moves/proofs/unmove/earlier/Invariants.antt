use Rattle.study_moves.proofs.LastMoves.{AreBefore}
use Rattle.study_moves.proofs.unmove.earlier.Given as goal

abbrev pub invariant-loop-m : goal.invariant-loop-m
invariant-loop-m l = AreBefore l.q l.m-items l.m-index l.list.items

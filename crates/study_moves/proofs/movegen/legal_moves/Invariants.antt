use Rattle.std.proofs.Common.{◌≤◌, ◌+◌, ◌*◌, length, drop}
use Rattle.study_moves.specs.Order.{AreMovesBelow}
use Rattle.study_moves.proofs.NoManBetween.{first_at}
use Rattle.study_moves.proofs.FewMoves.{most_of}
use Rattle.study_moves.proofs.movegen.legal_moves.Given as goal

abbrev pub invariant-loop-man : goal.invariant-loop-man
invariant-loop-man l = record {
  listed : AreMovesBelow l.p l.list.items (512 * first_at (drop l.man-index l.men));
  few : length l.list.items + most_of l.side (drop l.man-index l.men) ≤ 62;
}

use Rattle.std.proofs.Common.{◌≡◌, ℕ, ◌<◌, ◌≤◌, ◌+◌, ◌*◌, true, length}
use Rattle.study_board.specs.Sets.{has}
use Rattle.study_moves.specs.Order.{AreMovesBelow}
use Rattle.study_moves.proofs.TargetsLeft.{IsRest}
use Rattle.study_moves.proofs.FewMoves.{moves_below}
use Rattle.study_moves.proofs.movegen.add_moves_of.Given as goal

-- all moves to the squares below `next` are in the list
abbrev pub invariant-loop-target : goal.invariant-loop-target
invariant-loop-target l = (next : ℕ) × record {
  listed : AreMovesBelow l.p l.list.items (512 * l.man.at + 8 * next);
  few : length l.list.items ≤ length l.initial.list.items + moves_below l.man.side l.man.kind l.man.at next;
  small : next ≤ 64;
  rest : IsRest l.p l.man l.target-iterator next;
  inside : (x : ℕ) → x < 64 → has l.target-iterator x ≡ true → has l.initial.target-iterator x ≡ true;
}

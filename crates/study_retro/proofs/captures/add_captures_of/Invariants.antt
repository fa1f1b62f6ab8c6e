use Rattle.std.proofs.Common.{◌≡◌, ◌≤◌, ◌+◌, true, length, take, Contains}
use Rattle.study_board.specs.declared.men.Man.{Man}
use Rattle.study_moves.specs.declared.moves.Move.{Move}
use Rattle.study_moves.specs.Rules.{is_legal}
use Rattle.study_retro.specs.Still.{GoesWithoutPromotion, move_to}
use Rattle.study_retro.proofs.captures.add_captures_of.Given as goal

abbrev pub invariant-loop-other : goal.invariant-loop-other
invariant-loop-other l = record {
  few : length l.list.items ≤ length l.initial.list.items + l.other-index;
  only : (m : Move) → Contains l.list.items m → is_legal l.at m ≡ true;
  kept : (m : Move) → Contains l.initial.list.items m → Contains l.list.items m;
  all : (o : Man) → Contains (take l.other-index l.men) o → GoesWithoutPromotion l.at l.man o.at → Contains l.list.items (move_to l.man o.at);
}

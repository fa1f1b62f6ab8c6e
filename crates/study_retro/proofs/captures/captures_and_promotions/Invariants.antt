use Rattle.std.proofs.Common.{◌≡◌, ◌≤◌, ◌*◌, true, length, take, Contains}
use Rattle.study_board.specs.declared.men.Man.{Man}
use Rattle.study_board.specs.Men.{same_side}
use Rattle.study_moves.specs.declared.moves.Move.{Move}
use Rattle.study_moves.specs.Rules.{is_legal}
use Rattle.study_moves.specs.Unmoves.{IsQuiet}
use Rattle.study_retro.proofs.captures.captures_and_promotions.Given as goal

abbrev pub invariant-loop-man : goal.invariant-loop-man
invariant-loop-man l = record {
  few : length l.list.items ≤ 12 * l.man-index;
  only : (m : Move) → Contains l.list.items m → is_legal l.at m ≡ true;
  all : (man : Man) → Contains (take l.man-index l.men) man → same_side man.side l.at.to_move ≡ true → (m : Move)
      → m.origin ≡ man.at → is_legal l.at m ≡ true → (IsQuiet l.at m → ⊥) → Contains l.list.items m;
}

use Rattle.std.proofs.Common.{◌≡◌, ℕ, ◌≤◌, ◌<◌, ◌+◌, ◌*◌, true, length, Contains}
use Rattle.study_board.specs.Sets.{has}
use Rattle.study_board.specs.declared.men.Kind.{Kind}
use Rattle.study_moves.specs.declared.moves.Move.{Move}
use Rattle.study_moves.specs.Rules.{is_legal, is_promotion_piece}
use Rattle.study_retro.specs.Still.{promotion_to}
use Rattle.study_retro.proofs.captures.add_promotions_of.Given as goal

abbrev pub invariant-loop-number : goal.invariant-loop-number
invariant-loop-number l = record {
  few : length l.list.items + 4 * l.start ≤ length l.initial.list.items + 4 * l.number;
  only : (m : Move) → Contains l.list.items m → is_legal l.at m ≡ true;
  kept : (m : Move) → Contains l.initial.list.items m → Contains l.list.items m;
  all : (x : ℕ) → l.start ≤ x → x < l.number → has l.safe x ≡ true → (k : Kind) → is_promotion_piece k ≡ true
      → Contains l.list.items (promotion_to l.pawn x k);
}

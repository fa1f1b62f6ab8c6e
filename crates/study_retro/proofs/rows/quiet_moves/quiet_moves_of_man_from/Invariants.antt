use Rattle.std.proofs.Common.{◌≡◌, ℕ, ◌+◌, ◌*◌, ◌<◌, true, false, Some}
use Rattle.study_board.specs.Position.{Position}
use Rattle.study_board.specs.Sets.{has}
use Rattle.study_moves.specs.Rules.{is_legal}
use Rattle.study_moves.specs.Unmoves.{IsQuiet}
use Rattle.study_index.specs.Computed.{position_numbered}
use Rattle.study_retro.specs.ClassGame.{class_game}
use Rattle.study_retro.specs.RowEscapes.{AreAmong, HaveMoves, OthersHold}
use Rattle.study_retro.specs.Still.{IsWonAfter, move_to}
use Rattle.study_retro.proofs.rows.quiet_moves.quiet_moves_of_man_from.Given as goal

abbrev pub invariant-loop-target : goal.invariant-loop-target
invariant-loop-target g l = record {
  left : AreAmong l.target-iterator l.initial.target-iterator;
  among : AreAmong l.losing l.fn.so_far.losing;
  hold : OthersHold (class_game l.game.class l.game.tables.now) l.cells l.level l.row.number l.fn.so_far.losing l.losing;
  lose : (y x : ℕ) (q : Position) → y < 64 → has l.losing y ≡ true → position_numbered l.game.class (64 * l.row.number + y) ≡ Some q
      → x < 64 → has l.initial.target-iterator x ≡ true → has l.target-iterator x ≡ false
      → is_legal q (move_to l.man x) ≡ true → IsQuiet q (move_to l.man x)
      → IsWonAfter (class_game l.game.class l.game.tables.now) l.cells l.level q (move_to l.man x);
  some : HaveMoves l.game.class l.row.number l.some;
}

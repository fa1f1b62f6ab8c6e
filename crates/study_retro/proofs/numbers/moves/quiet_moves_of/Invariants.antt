use Rattle.std.proofs.Common.{◌≡◌, ℕ, ◌<◌, true, false, Some}
use Rattle.study_board.specs.Position.{Position}
use Rattle.study_board.specs.Sets.{has}
use Rattle.study_moves.specs.Rules.{reaches_last_rank}
use Rattle.study_index.specs.Computed.{position_numbered}
use Rattle.study_retro.specs.ClassGame.{class_game}
use Rattle.study_retro.specs.RowEscapes.{AreAmong}
use Rattle.study_retro.specs.Still.{HasMove, IsWonAfter, move_to}
use Rattle.study_retro.proofs.numbers.moves.quiet_moves_of.Given as goal

abbrev pub invariant-loop-target : goal.invariant-loop-target
invariant-loop-target g l = record {
  among : AreAmong l.target-iterator l.initial.target-iterator;
  lose : (x : ℕ) → x < 64 → has l.initial.target-iterator x ≡ true → has l.target-iterator x ≡ false → reaches_last_rank l.mover.man.now x ≡ false
      → (q : Position) → position_numbered l.game.class l.number ≡ Some q
      → IsWonAfter (class_game l.game.class l.game.tables.now) l.cells l.level q (move_to l.mover.man.now x);
  some : l.some ≡ true → (q : Position) → position_numbered l.game.class l.number ≡ Some q → HasMove q;
}

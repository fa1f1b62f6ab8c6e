use Rattle.std.proofs.Common.{◌≡◌, ◌+◌, ◌*◌, Some}
use Rattle.study_board.specs.Position.{Position}
use Rattle.study_index.specs.Computed.{position_numbered}
use Rattle.study_retro.specs.ClassGame.{class_game}
use Rattle.study_levels.specs.Numbered.{NoLossBy}
use Rattle.study_retro.specs.RowEscapes.{HaveMoves}
use Rattle.study_retro.specs.Still.{QuietMovesLoseBy, on_square}
use Rattle.study_retro.proofs.SquaresKept.{AreKeptExcept}
use Rattle.study_retro.proofs.rows.quiet_moves.quiet_moves_of_last_each.Given as goal

abbrev pub invariant-loop-square : goal.invariant-loop-square
invariant-loop-square g l = record {
  kept : AreKeptExcept l.fn.so_far.losing (λ y. (q : Position) → position_numbered l.game.class (64 * l.row.number + y) ≡ Some q
      → QuietMovesLoseBy (class_game l.game.class l.game.tables.now) l.cells l.level q (on_square l.row.last y))
      (λ y. NoLossBy (class_game l.game.class l.game.tables.now) l.cells l.level (64 * l.row.number + y)) l.square-iterator l.seen.losing;
  some : HaveMoves l.game.class l.row.number l.seen.some;
}

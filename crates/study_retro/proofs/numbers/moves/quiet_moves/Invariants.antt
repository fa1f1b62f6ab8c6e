use Rattle.std.proofs.Common.{◌≡◌, true, Some, take, Contains}
use Rattle.study_board.specs.declared.men.Man.{Man}
use Rattle.study_board.specs.Position.{Position}
use Rattle.study_index.specs.Computed.{position_numbered}
use Rattle.study_retro.specs.ClassGame.{class_game}
use Rattle.study_retro.specs.Still.{HasMove, QuietMovesLoseBy}
use Rattle.study_retro.proofs.numbers.moves.quiet_moves.Given as goal

abbrev pub invariant-loop-slot : goal.invariant-loop-slot
invariant-loop-slot g l = record {
  lose : (m : Man) → Contains (take l.slot l.man-items) m → (q : Position) → position_numbered l.game.class l.number ≡ Some q
      → QuietMovesLoseBy (class_game l.game.class l.game.tables.now) l.cells l.level q m;
  some : l.some ≡ true → (q : Position) → position_numbered l.game.class l.number ≡ Some q → HasMove q;
}

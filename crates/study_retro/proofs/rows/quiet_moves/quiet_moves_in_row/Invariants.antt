use Rattle.std.proofs.Common.{take, Contains}
use Rattle.study_board.specs.declared.men.Man.{Man}
use Rattle.study_retro.specs.ClassGame.{class_game}
use Rattle.study_retro.specs.RowEscapes.{AllLoseBy, AreAmong, HaveMoves, OthersHold}
use Rattle.study_retro.proofs.rows.quiet_moves.quiet_moves_in_row.Given as goal

abbrev pub invariant-loop-slot : goal.invariant-loop-slot
invariant-loop-slot g l = record {
  among : AreAmong l.moves.losing l.fn.candidates;
  hold : OthersHold (class_game l.game.class l.game.tables.now) l.cells l.level l.row.number l.fn.candidates l.moves.losing;
  lose : (m : Man) → Contains (take l.slot l.man-items) m
      → AllLoseBy (class_game l.game.class l.game.tables.now) l.cells l.level l.row.number l.moves.losing m;
  some : HaveMoves l.game.class l.row.number l.moves.some;
}

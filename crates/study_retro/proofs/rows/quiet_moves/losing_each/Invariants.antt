use Rattle.std.proofs.Common.{◌≡◌, ◌+◌, ◌*◌, false, Some}
use Rattle.study_board.specs.Position.{Position}
use Rattle.study_moves.specs.Rules.{reaches_last_rank}
use Rattle.study_index.specs.Computed.{position_numbered}
use Rattle.study_retro.specs.ClassGame.{class_game}
use Rattle.study_levels.specs.Numbered.{NoLossBy}
use Rattle.study_retro.specs.Still.{IsWonAfter, move_to}
use Rattle.study_retro.proofs.SquaresKept.{AreKeptExcept}
use Rattle.study_retro.proofs.rows.quiet_moves.losing_each.Given as goal

abbrev pub invariant-loop-square : goal.invariant-loop-square
invariant-loop-square g l = AreKeptExcept l.fn.going
    (λ y. reaches_last_rank l.man l.target ≡ false → (q : Position) → position_numbered l.game.class (64 * l.departure.row + y) ≡ Some q
    → IsWonAfter (class_game l.game.class l.game.tables.now) l.cells l.level q (move_to l.man l.target))
    (λ y. NoLossBy (class_game l.game.class l.game.tables.now) l.cells l.level (64 * l.departure.row + y)) l.square-iterator l.losing

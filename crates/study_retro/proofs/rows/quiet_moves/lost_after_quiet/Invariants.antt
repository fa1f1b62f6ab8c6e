use Rattle.std.proofs.Common.{◌≡◌, ◌+◌, ◌*◌, Some}
use Rattle.study_board.specs.Position.{Position}
use Rattle.study_index.specs.Computed.{position_numbered}
use Rattle.study_retro.specs.ClassGame.{class_game}
use Rattle.study_levels.specs.Numbered.{LosesBy, NoLossBy}
use Rattle.study_retro.proofs.SquaresKept.{AreKeptExcept}
use Rattle.study_retro.proofs.rows.quiet_moves.lost_after_quiet.Given as goal

abbrev pub invariant-loop-square : goal.invariant-loop-square
invariant-loop-square g l = AreKeptExcept l.fn.losing
    (λ y. (p : Position) × (position_numbered l.game.class (64 * l.row + y) ≡ Some p)
    × LosesBy (class_game l.game.class l.game.tables.now) l.cells l.level p)
    (λ y. NoLossBy (class_game l.game.class l.game.tables.now) l.cells l.level (64 * l.row + y)) l.square-iterator l.lost

use Rattle.std.proofs.Common.{◌≡◌, ◌+◌, ◌*◌, Some}
use Rattle.study_levels.specs.Numbered.{LosesBy, NoLossBy}
use Rattle.study_retro.proofs.SquaresKept.{AreKeptExcept}
use Rattle.study_retro.proofs.rows.levels.lost_one_by_one.Given as goal

abbrev pub invariant-loop-square : goal.invariant-loop-square
invariant-loop-square g l = AreKeptExcept l.fn.candidates
    (λ y. (p : g.row.G-Position.Denot) × ((g.G.Game.numbered l.game).position (64 * l.row + y) ≡ Some p)
    × LosesBy (g.G.Game.numbered l.game) l.cells l.level p)
    (λ y. NoLossBy (g.G.Game.numbered l.game) l.cells l.level (64 * l.row + y)) l.square-iterator l.lost

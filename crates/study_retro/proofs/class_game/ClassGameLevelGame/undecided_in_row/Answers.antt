use Rattle.std.proofs.Common.{◌≡◌, rules, ℕ, ◌+◌, ◌-◌, ◌*◌, ◌<◌, Some, arith, subst}
use Rattle.study_index.specs.Computed.{position_numbered}
use Rattle.study_retro.proofs.StillChess.{still_held}
use Rattle.study_retro.proofs.class_game.ClassGameLevelGame.undecided_in_row.Goals as goal

pub returns-then-row : goal.returns-then-row
returns-then-row g c = λ outer y ly e.
    let number : ℕ = 64 * c.args.row + y in
    let class = c.args.self.now.class in
    let above = c.if-row.true in
    let same : number ≡ 64 * (c.args.row - 262144) + y + 16777216 = omega (arith, above) in
    still_held class c.args.self.now.tables.now number c.requires.laws outer
    (λ q at. absurd (c.squares_without_en_passant.ensures y ly e q (subst (λ (n : ℕ). position_numbered class n ≡ Some q) same at)))

pub returns : goal.returns
returns g c = λ outer y ly e.
    still_held c.args.self.now.class c.args.self.now.tables.now (64 * c.args.row + y) c.requires.laws outer
    (λ q at. (let low : 64 * c.args.row + y < 16777216 = search rules in low, c.quiet_squares_in_row.ensures y ly e q at))

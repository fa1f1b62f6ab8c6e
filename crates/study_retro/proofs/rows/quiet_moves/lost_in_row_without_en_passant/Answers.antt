use Rattle.std.proofs.Common.{◌≡◌, ℕ, ◌+◌, ◌*◌, Some, arith, sym, ◌∙◌, ap, subst}
use Rattle.std.proofs.lemmas.Bool.{false≢true}
use Rattle.study_board.specs.Position.{Position}
use Rattle.study_board.specs.Sets.{has}
use Rattle.study_board.proofs.SetBits.{has-zero}
use Rattle.study_index.specs.Computed.{position_numbered}
use Rattle.study_index.proofs.ClassLaws.{below}
use Rattle.study_index.proofs.ComputedIndex.{decoded_of_numbered}
use Rattle.study_retro.specs.ClassGame.{class_game}
use Rattle.study_levels.specs.Numbered.{LosesBy, NoLossBy}
use Rattle.study_retro.proofs.rows.quiet_moves.lost_in_row_without_en_passant.Goals as goal

pub returns-then-is_empty-clause-yes : goal.returns-then-is_empty-clause-yes
returns-then-is_empty-clause-yes g c = λ y on e.
    absurd (false≢true (sym (ap (λ (s : ℕ). has s y) (c.is_empty.ensures.0 c.if-is_empty.true) ∙ has-zero y) ∙ e))

pub new-requires-clause-cell : goal.new-requires-clause-cell
new-requires-clause-cell g c =
    let f = c.first-square.ensures in
    let class = c.args.game.now.class in
    let number = 64 * c.args.row + c.first-square.result in
    let q = c.requires.numbered c.first-square.result f.inside f.there in
    let l = below class number q.0 (decoded_of_numbered class number q.0 q.1) in
    omega (arith, l)

pub lost_of_row-requires-clause-numbered : goal.lost_of_row-requires-clause-numbered
lost_of_row-requires-clause-numbered g c = λ y on e.
    let q = c.requires.numbered y on e in
    (q.0, ap (λ (r : ℕ). position_numbered c.args.game.now.class (64 * r + y)) c.in-Some.ensures.number ∙ q.1)

pub returns-in-Some-clause-yes : goal.returns-in-Some-clause-yes
returns-in-Some-clause-yes g c = λ y on e.
    subst (λ (r : ℕ). (p : Position) × (position_numbered c.args.game.now.class (64 * r + y) ≡ Some p)
    × LosesBy (class_game c.args.game.now.class c.args.game.now.tables.now) c.args.cells.now c.args.level p) c.in-Some.ensures.number
    (c.lost_of_row.ensures.yes y on e)

pub returns-in-Some-clause-no : goal.returns-in-Some-clause-no
returns-in-Some-clause-no g c = λ y on e f.
    subst (λ (r : ℕ). NoLossBy (class_game c.args.game.now.class c.args.game.now.tables.now) c.args.cells.now c.args.level (64 * r + y))
    c.in-Some.ensures.number
    (c.lost_of_row.ensures.no y on e f)

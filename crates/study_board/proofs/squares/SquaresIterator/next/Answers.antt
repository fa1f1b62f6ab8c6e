use Rattle.std.proofs.Common.{◌≡◌, ℕ, ◌∷◌, Bool, not, ◌&&◌, List, length, sym, ◌∙◌, ap, subst, arith}
use Rattle.study_board.specs.Sets.{has}
use Rattle.study_board.specs.Squares.{squares_of}
use Rattle.study_board.proofs.SquareLists.{IsFirstOf, squares-first, squares-zero}
use Rattle.study_board.proofs.squares.SquaresIterator.next.Goals as goal

pub returns-then-is_empty-clause-steps : goal.returns-then-is_empty-clause-steps
returns-then-is_empty-clause-steps c =
    let none = ap squares_of (sym c.self.view_is ∙ c.is_empty.ensures.0 c.if-is_empty.true) ∙ squares-zero in
    (none, none)

pub returns-clause-steps : goal.returns-clause-steps
returns-clause-steps c =
    let f = c.first-square.ensures in
    let x = c.first-square.result in
    let rest = c.without-self-inside.result in
    squares-first c.args.self.now x rest (subst (λ (set : ℕ). IsFirstOf set x rest) c.self.view_is (record {
      inside = f.inside;
      there = f.there;
      least = f.least;
      left = λ y on. c.without-self-inside.ensures y on ∙ ap (λ (b : Bool). has c.self.inside.rest y && not b) (c.of.ensures y on);
    }))

pub returns-clause-goes : goal.returns-clause-goes
returns-clause-goes c =
    let x = c.first-square.result in
    let rest = c.without-self-inside.result in
    let step : squares_of c.args.self.now ≡ x ∷ squares_of rest = returns-clause-steps c in
    let fewer : length (squares_of c.args.self.now) ≡ length (x ∷ squares_of rest) = ap (λ (l : List ℕ). length l) step in
    record { on = λ _. (tt, tt, omega (arith, fewer)); keeps = tt; rests = λ e. e }

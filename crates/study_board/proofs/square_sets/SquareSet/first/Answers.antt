use Rattle.std.proofs.Common.{ℕ, ◌∙◌, sym, subst}
use Rattle.study_board.proofs.SetBits.{IsFirst, IsFirst-trailing_zeros}
use Rattle.study_board.proofs.square_sets.SquareSet.first.Goals as goal

pub returns-clause-there : goal.returns-clause-there
returns-clause-there c =
    let s = c.self.inside.bits in
    let P : ℕ → Type 0 = λ t. IsFirst s t in
    rw (← c.self.view_is) (subst P (sym c.at.ensures) (IsFirst-trailing_zeros s (λ e. c.requires (sym c.self.view_is ∙ e)) c.self.invariant)).there

pub returns-clause-least : goal.returns-clause-least
returns-clause-least c =
    let s = c.self.inside.bits in
    let P : ℕ → Type 0 = λ t. IsFirst s t in
    rw (← c.self.view_is) (subst P (sym c.at.ensures) (IsFirst-trailing_zeros s (λ e. c.requires (sym c.self.view_is ∙ e)) c.self.invariant)).least

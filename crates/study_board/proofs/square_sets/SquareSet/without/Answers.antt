use Rattle.std.proofs.Common.{ℕ, ◌<◌, ◌^◌, subst}
use Rattle.study_board.proofs.SetBits.{has-without}
use Rattle.study_board.proofs.square_sets.SquareSet.without.Goals as goal

pub returns : goal.returns
returns c x lx = rw (c.self.view_is, c.other.view_is)
    (has-without c.args.self c.args.other x (subst (λ (n : ℕ). n < 2 ^ 64) c.other.view_is c.other.invariant) lx)

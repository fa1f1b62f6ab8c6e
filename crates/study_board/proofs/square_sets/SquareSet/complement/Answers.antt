use Rattle.std.proofs.Common.{ℕ, ◌<◌, ◌^◌, subst}
use Rattle.study_board.proofs.SetBits.{has-not}
use Rattle.study_board.proofs.square_sets.SquareSet.complement.Goals as goal

pub returns : goal.returns
returns c x lx = rw c.self.view_is (has-not c.args.self x (subst (λ (n : ℕ). n < 2 ^ 64) c.self.view_is c.self.invariant) lx)

use Rattle.std.proofs.Common.{ℕ, ◌∙◌, ap}
use Rattle.study_board.specs.Sets.{has}
use Rattle.study_board.proofs.SetBits.{has-zero}
use Rattle.study_retro.proofs.rows.quiet_moves.has_any.Goals as goal

pub returns-then-is_empty-clause-none : goal.returns-then-is_empty-clause-none
returns-then-is_empty-clause-none c = λ f x. ap (λ (s : ℕ). has s x) (c.is_empty.ensures.0 c.if-is_empty.true) ∙ has-zero x

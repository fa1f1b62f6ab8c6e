use Rattle.std.proofs.Common.{ℕ, ap, sym, ◌∙◌}
use Rattle.std.proofs.lemmas.Bool.{false≢true}
use Rattle.study_board.specs.Sets.{has}
use Rattle.study_board.proofs.SetBits.{has-zero}
use Rattle.study_retro.proofs.rows.quiet.squares_without_position.Goals as goal

pub returns-then-eq : goal.returns-then-eq
returns-then-eq c = λ y on e. absurd (false≢true (sym (ap (λ (s : ℕ). has s y) c.empty.ensures ∙ has-zero y) ∙ e))

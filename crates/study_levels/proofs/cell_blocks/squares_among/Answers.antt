use Rattle.std.proofs.Common.{ℕ, ◌∙◌, sym, ap, arith}
use Rattle.std.proofs.lemmas.Bool.{false≢true}
use Rattle.study_board.specs.Sets.{has}
use Rattle.study_board.proofs.SetBits.{has-zero}
use Rattle.study_levels.proofs.cell_blocks.squares_among.Goals as goal

pub loop-place-init : goal.loop-place-init
loop-place-init c = record {
  above = omega arith;
  within = c.requires.from;
  here = λ y on e. absurd (false≢true (sym (ap (λ (s : ℕ). has s y) c.empty-set.ensures ∙ has-zero y) ∙ e));
  all = λ y f l. absurd (omega (arith, f, l));
}

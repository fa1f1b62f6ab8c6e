use Rattle.std.proofs.Common.{refl, sym, ◌∙◌}
use Rattle.study_board.proofs.SetBits.{has-zero}
use Rattle.study_retro.proofs.rows.checks.non_blocking_squares.Goals as goal

pub returns-else-is_slider : goal.returns-else-is_slider
returns-else-is_slider c y ly = rw (c.complement-else-is_slider.ensures y ly, c.empty.ensures, has-zero y, sym c.is_slider.ensures ∙ c.if-is_slider.false) refl

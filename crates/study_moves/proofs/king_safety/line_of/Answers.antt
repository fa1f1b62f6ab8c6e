use Rattle.std.proofs.Common.{◌∙◌, sym}
use Rattle.study_board.specs.Geometry.{strictly_between}
use Rattle.study_board.proofs.SetBits.{none_unless}
use Rattle.study_moves.proofs.king_safety.line_of.Goals as goal

pub returns-then-is_slider : goal.returns-then-is_slider
returns-then-is_slider c x lx =
    let s = sym c.is_slider.ensures ∙ c.if-is_slider.true in
    rw s (c.between.ensures x lx)

pub returns-else-is_slider : goal.returns-else-is_slider
returns-else-is_slider c x lx = rw c.empty.ensures (none_unless _ (strictly_between c.args.m.now.at x c.args.k) x (sym c.is_slider.ensures
    ∙ c.if-is_slider.false))

use Rattle.std.proofs.Common.{◌&&◌, ◌==◌}
use Rattle.study_board.specs.Geometry.{strictly_between}
use Rattle.study_board.specs.Sets.{is_slider}
use Rattle.study_board.proofs.SetBits.{has-neither}
use Rattle.study_moves.proofs.king_safety.squares_not_blocking.Goals as goal

pub returns : goal.returns
returns c x lx =
    has-neither _ _ _ _ x (c.args.m.now.at == x)
    (is_slider c.args.m.now.kind && strictly_between c.args.m.now.at x c.args.k)
    (c.of.ensures x lx) (c.line_of.ensures x lx) (c.union.ensures x) (c.complement.ensures x lx)

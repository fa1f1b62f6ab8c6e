use Rattle.study_moves.proofs.ClosedSquares.{open_squares}
use Rattle.study_moves.proofs.targets.safe_targets.Goals as goal

pub returns : goal.returns
returns c x lx =
    open_squares c.args.men.now c.args.side c.args.man.now x _ _ _ (c.pseudo_targets.ensures x lx) (c.closed_squares.ensures x lx) (c.without.ensures x lx)

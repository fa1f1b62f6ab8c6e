use Rattle.study_moves.proofs.PawnSquares.{takes_there}
use Rattle.study_moves.proofs.targets.pawn_capture_targets.Goals as goal

pub returns : goal.returns
returns c x lx =
    takes_there c.args.men.now c.args.passed c.args.side _ c.args.a x _ _ _ _ _ c.other.ensures (c.pawn_captures_of.ensures x lx) (c.squares_of.ensures x lx)
    (c.passed_set.ensures x lx) (c.union.ensures x) (c.intersection.ensures x)

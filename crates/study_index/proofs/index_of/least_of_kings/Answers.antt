use Rattle.std.proofs.Common.{[], ◌∷◌}
use Rattle.study_index.proofs.BySquares.{least_of_squares}
use Rattle.study_index.proofs.index_of.least_of_kings.Goals as goal

pub returns : goal.returns
returns c = rw (c.least_at.ensures, c.square_of_man.ensures.value, c.square_of_man-2.ensures.value)
    (least_of_squares c.args.frame.has_pawns c.args.frame.to_move c.args.frame.swap_colours (c.args.a ∷ c.args.b ∷ [])
    (c.square_of_man.ensures.on_board, (c.square_of_man-2.ensures.on_board, tt)))

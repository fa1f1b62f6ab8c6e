use Rattle.std.proofs.Common.{[], ◌∷◌}
use Rattle.study_index.proofs.BySquares.{least_of_squares}
use Rattle.study_index.proofs.index_of.least_with_two.Goals as goal

pub returns : goal.returns
returns c =
    rw (
      c.least_at.ensures,
      c.square_of_man.ensures.value,
      c.square_of_man-2.ensures.value,
      c.square_of_man-3.ensures.value,
      c.square_of_man-4.ensures.value,
      c.man_slot_number.ensures,
      c.man_slot_number-2.ensures,
    )
    (least_of_squares c.args.frame.has_pawns c.args.frame.to_move c.args.frame.swap_colours (c.args.a ∷ c.args.b ∷ c.args.c ∷ c.args.d ∷ []) (
      c.square_of_man.ensures.on_board,
      (c.square_of_man-2.ensures.on_board, (c.square_of_man-3.ensures.on_board, (c.square_of_man-4.ensures.on_board, tt))),
    ))

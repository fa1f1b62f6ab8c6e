use Rattle.std.proofs.Common.{[], ◌∷◌}
use Rattle.study_index.proofs.BySquares.{one_placed, more_placed, least_of_placed}
use Rattle.study_index.proofs.index_of.least_of_two.Goals as goal

pub returns : goal.returns
returns c =
    let a = c.placed_man.ensures in
    let b = c.placed_man-2.ensures in
    let one = one_placed c.args.frame.swap_colours c.args.b _ b.value in
    let two = more_placed c.args.frame.swap_colours c.args.a (c.args.b ∷ []) _ _ _ a.value c.sort_two-a.ensures one in
    rw c.least_at.ensures
    (least_of_placed c.args.frame.has_pawns c.args.frame.to_move c.args.frame.swap_colours (c.args.a ∷ c.args.b ∷ []) _
    (a.on_board, (b.on_board, tt)) two)

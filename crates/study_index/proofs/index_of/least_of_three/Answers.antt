use Rattle.std.proofs.Common.{[], ◌∷◌}
use Rattle.study_index.proofs.BySquares.{one_placed, more_placed, least_of_placed}
use Rattle.study_index.proofs.index_of.least_of_three.Goals as goal

pub returns : goal.returns
returns c =
    let b = c.placed_man.ensures in
    let d = c.placed_man-2.ensures in
    let a = c.placed_man-3.ensures in
    let one = one_placed c.args.frame.swap_colours c.args.c _ d.value in
    let two = more_placed c.args.frame.swap_colours c.args.b (c.args.c ∷ []) _ _ _ b.value c.sort_two-b.ensures one in
    let three = more_placed c.args.frame.swap_colours c.args.a (c.args.b ∷ c.args.c ∷ []) _ _ _ a.value c.insert_into_two-a.ensures two in
    rw c.least_at.ensures
    (least_of_placed c.args.frame.has_pawns c.args.frame.to_move c.args.frame.swap_colours (c.args.a ∷ c.args.b ∷ c.args.c ∷ []) _
    (a.on_board, (b.on_board, (d.on_board, tt))) three)

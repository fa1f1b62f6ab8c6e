use Rattle.std.proofs.Common.{[], ◌∷◌}
use Rattle.study_index.proofs.BySquares.{one_placed, more_placed, least_of_placed}
use Rattle.study_index.proofs.index_of.least_of_four.Goals as goal

pub returns : goal.returns
returns c =
    let e = c.placed_man.ensures in
    let d = c.placed_man-2.ensures in
    let b = c.placed_man-3.ensures in
    let a = c.placed_man-4.ensures in
    let men = c.args.c ∷ c.args.d ∷ [] in
    let one = one_placed c.args.frame.swap_colours c.args.d _ d.value in
    let two = more_placed c.args.frame.swap_colours c.args.c (c.args.d ∷ []) _ _ _ e.value c.sort_two-c.ensures one in
    let three = more_placed c.args.frame.swap_colours c.args.b men _ _ _ b.value c.insert_into_two-b.ensures two in
    let four = more_placed c.args.frame.swap_colours c.args.a (c.args.b ∷ men) _ _ _ a.value c.insert_into_three-a.ensures three in
    rw c.least_at.ensures
    (least_of_placed c.args.frame.has_pawns c.args.frame.to_move c.args.frame.swap_colours (c.args.a ∷ c.args.b ∷ men) _
    (a.on_board, (b.on_board, (e.on_board, (d.on_board, tt)))) four)

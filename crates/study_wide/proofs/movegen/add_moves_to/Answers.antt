use Rattle.std.proofs.Common.{◌∙◌, sym}
use Rattle.study_wide.proofs.FewMovesOfMan.{at_end, elsewhere, room_at_end}
use Rattle.study_wide.proofs.movegen.add_moves_to.Goals as goal

pub add-requires : goal.add-requires
add-requires c =
    (room_at_end c.args.p.now c.args.man.now c.men-men.ensures.valid c.requires.here c.args.target c.args.list.now.items
    (sym c.reaches_last_rank.ensures ∙ c.if-reaches_last_rank.true) c.requires.room).queen

pub add-requires-then-reaches_last_rank : goal.add-requires-then-reaches_last_rank
add-requires-then-reaches_last_rank c =
    rw c.add.ensures
    (room_at_end c.args.p.now c.args.man.now c.men-men.ensures.valid c.requires.here c.args.target c.args.list.now.items
    (sym c.reaches_last_rank.ensures ∙ c.if-reaches_last_rank.true) c.requires.room).rook

pub add-requires-then-reaches_last_rank-2 : goal.add-requires-then-reaches_last_rank-2
add-requires-then-reaches_last_rank-2 c =
    rw (c.add-then-reaches_last_rank.ensures, c.add.ensures)
    (room_at_end c.args.p.now c.args.man.now c.men-men.ensures.valid c.requires.here c.args.target c.args.list.now.items
    (sym c.reaches_last_rank.ensures ∙ c.if-reaches_last_rank.true) c.requires.room).bishop

pub add-requires-then-reaches_last_rank-3 : goal.add-requires-then-reaches_last_rank-3
add-requires-then-reaches_last_rank-3 c =
    rw (c.add-then-reaches_last_rank-2.ensures, c.add-then-reaches_last_rank.ensures, c.add.ensures)
    (room_at_end c.args.p.now c.args.man.now c.men-men.ensures.valid c.requires.here c.args.target c.args.list.now.items
    (sym c.reaches_last_rank.ensures ∙ c.if-reaches_last_rank.true) c.requires.room).knight

pub returns-then-reaches_last_rank : goal.returns-then-reaches_last_rank
returns-then-reaches_last_rank c =
    rw (c.add-then-reaches_last_rank-3.ensures, c.add-then-reaches_last_rank-2.ensures, c.add-then-reaches_last_rank.ensures, c.add.ensures)
    (at_end c.args.p.now c.args.man.now c.men-men.ensures.valid c.requires.here c.args.target c.args.list.now.items
    (sym c.reaches_last_rank.ensures ∙ c.if-reaches_last_rank.true))

pub returns-else-reaches_last_rank : goal.returns-else-reaches_last_rank
returns-else-reaches_last_rank c =
    rw c.add-else-reaches_last_rank.ensures
    (elsewhere c.args.p.now c.args.man.now c.men-men.ensures.valid c.requires.here c.args.target c.args.list.now.items
    (sym c.reaches_last_rank.ensures ∙ c.if-reaches_last_rank.false))

use Rattle.std.proofs.Common.{ℕ, ◌<◌, refl, sym, ◌∙◌, subst}
use Rattle.std.proofs.lemmas.Bool.{false≢true}
use Rattle.study_retro.proofs.BackLemmas.{departed, safe_below, safe_escape, safe_legal, safe_won}
use Rattle.study_retro.proofs.numbers.moves.loses_after.Goals as goal

-- a move that is not quiet is left to other functions
pub returns-then-reaches_last_rank-clause-yes : goal.returns-then-reaches_last_rank-clause-yes
returns-then-reaches_last_rank-clause-yes g c = λ t plain q at.
    absurd (false≢true (sym plain ∙ sym c.reaches_last_rank.ensures ∙ c.if-reaches_last_rank.true))

-- after a double step the position is examined
pub wins_after-requires-clause-legal : goal.wins_after-requires-clause-legal
wins_after-requires-clause-legal g c = λ q at.
    let stays = sym c.reaches_last_rank.ensures ∙ c.if-reaches_last_rank.false in
    safe_legal c.args.game.now.class c.args.departure.now.number q at c.requires.plain c.args.mover.setup.now.men.items c.args.mover.setup.now.to_move
    c.requires.encodes c.args.mover.man.now c.requires.man c.requires.side c.args.target c.requires.on c.requires.safe
    c.requires.free stays

pub bounds-cells-after : goal.bounds-cells-after
bounds-cells-after g c =
    let q = c.requires.numbered in
    let fits =
    departed c.args.game.now.class c.args.departure.now.class c.args.departure.now.number c.args.departure.now.number c.args.mover.man.now.at
    c.args.departure.now.from c.args.target c.number_to-after.result c.requires.class refl c.requires.from c.number_to-after.ensures in
    let stays = sym c.reaches_last_rank.ensures ∙ c.if-reaches_last_rank.false in
    subst (λ (k : ℕ). c.number_to-after.result < k) (sym c.requires.cells)
    (safe_below c.args.game.now.class c.args.departure.now.number q.0 q.1 c.requires.plain c.args.mover.setup.now.men.items c.args.mover.setup.now.to_move
    c.requires.encodes c.args.mover.man.now c.requires.man c.requires.side c.args.target c.requires.on c.requires.safe
    c.requires.free stays
    c.args.game.now.tables.now c.requires.laws c.args.cells.now c.number_to-after.result fits (c.may_leave_capture.ensures c.if-may_leave_capture.false))

pub returns-clause-yes : goal.returns-clause-yes
returns-clause-yes g c = λ t plain p e.
    let q = c.requires.numbered in
    let fits =
    departed c.args.game.now.class c.args.departure.now.class c.args.departure.now.number c.args.departure.now.number c.args.mover.man.now.at
    c.args.departure.now.from c.args.target c.number_to-after.result c.requires.class refl c.requires.from c.number_to-after.ensures in
    let w = c.tells_win.ensures.0 t in
    safe_won c.args.game.now.class c.args.departure.now.number q.0 q.1 c.requires.plain c.args.mover.setup.now.men.items c.args.mover.setup.now.to_move
    c.requires.encodes c.args.mover.man.now c.requires.man c.requires.side c.args.target c.requires.on c.requires.safe c.requires.free plain
    c.args.game.now.tables.now c.requires.laws c.args.cells.now c.number_to-after.result fits (c.may_leave_capture.ensures c.if-may_leave_capture.false)
    c.args.level
    w p e

pub returns-clause-no : goal.returns-clause-no
returns-clause-no g c = λ f.
    let q = c.requires.numbered in
    let fits =
    departed c.args.game.now.class c.args.departure.now.class c.args.departure.now.number c.args.departure.now.number c.args.mover.man.now.at
    c.args.departure.now.from c.args.target c.number_to-after.result c.requires.class refl c.requires.from c.number_to-after.ensures in
    let stays = sym c.reaches_last_rank.ensures ∙ c.if-reaches_last_rank.false in
    safe_escape c.args.game.now.class c.args.departure.now.number q.0 q.1 c.requires.plain c.args.mover.setup.now.men.items c.args.mover.setup.now.to_move
    c.requires.encodes c.args.mover.man.now c.requires.man c.requires.side c.args.target c.requires.on c.requires.safe
    c.requires.free stays
    c.args.game.now.tables.now c.requires.laws c.args.cells.now c.number_to-after.result fits (c.may_leave_capture.ensures c.if-may_leave_capture.false)
    c.args.level
    (λ w. false≢true (sym f ∙ c.tells_win.ensures.1 w))

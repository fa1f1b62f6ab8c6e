use Rattle.std.proofs.Common.{ℕ, ◌+◌, ◌*◌, ◌<◌, arith, refl, sym, ◌∙◌, subst}
use Rattle.std.proofs.lemmas.Bool.{false≢true}
use Rattle.study_retro.proofs.BackLemmas.{departed}
use Rattle.study_retro.proofs.RowEscapeLemmas.{go_below, go_escape, go_won}
use Rattle.study_retro.proofs.rows.quiet_moves.losing_after.Goals as goal

-- a move that is not quiet is left to other functions
pub returns-then-reaches_last_rank-clause-yes : goal.returns-then-reaches_last_rank-clause-yes
returns-then-reaches_last_rank-clause-yes g c = λ plain. absurd (false≢true (sym plain ∙ sym c.reaches_last_rank.ensures ∙ c.if-reaches_last_rank.true))

pub returns-then-reaches_last_rank-clause-no : goal.returns-then-reaches_last_rank-clause-no
returns-then-reaches_last_rank-clause-no g c = λ y on e f. absurd (false≢true (sym f ∙ e))

pub squares_won-requires-clause-cells : goal.squares_won-requires-clause-cells
squares_won-requires-clause-cells g c = λ y on e.
    let class = c.args.game.now.class in
    let number = 64 * c.args.departure.now.row + y in
    let k = 64 * c.in-Some.after + y in
    let small = c.requires.plain in
    let q = c.requires.numbered y on e in
    let fits = departed class c.args.departure.now.class number number c.args.man.now.at c.args.departure.now.from c.args.target k
    c.requires.class refl c.requires.from
    (λ p moved. c.in-Some.ensures.numbers y p on moved) in
    let passes = c.may_allow_en_passant.ensures c.if-may_allow_en_passant.false in
    let stays = sym c.reaches_last_rank.ensures ∙ c.if-reaches_last_rank.false in
    subst (λ (m : ℕ). k < m) (sym c.requires.cells)
    (go_below class number q.0 q.1 (omega (arith, small, on)) c.args.man.now c.args.target c.requires.on (c.requires.going y on e) passes stays
    c.args.game.now.tables.now c.requires.laws c.args.cells.now k fits)

pub returns-in-Some-clause-only : goal.returns-in-Some-clause-only
returns-in-Some-clause-only g c = λ y on e. (c.squares_won.ensures.yes y on e).0

pub returns-in-Some-clause-yes : goal.returns-in-Some-clause-yes
returns-in-Some-clause-yes g c = λ stays y p on r at.
    let won = c.squares_won.ensures.yes y on r in
    let e = won.0 in
    let class = c.args.game.now.class in
    let number = 64 * c.args.departure.now.row + y in
    let k = 64 * c.in-Some.after + y in
    let small = c.requires.plain in
    let q = c.requires.numbered y on e in
    let fits = departed class c.args.departure.now.class number number c.args.man.now.at c.args.departure.now.from c.args.target k
    c.requires.class refl c.requires.from
    (λ p moved. c.in-Some.ensures.numbers y p on moved) in
    let passes = c.may_allow_en_passant.ensures c.if-may_allow_en_passant.false in
    go_won class number q.0 q.1 (omega (arith, small, on)) c.args.man.now c.args.target c.requires.on (c.requires.going y on e) passes stays
    c.args.game.now.tables.now c.requires.laws c.args.cells.now k fits c.args.level won.1 p at

pub returns-in-Some-clause-no : goal.returns-in-Some-clause-no
returns-in-Some-clause-no g c = λ y on e r.
    let class = c.args.game.now.class in
    let number = 64 * c.args.departure.now.row + y in
    let k = 64 * c.in-Some.after + y in
    let small = c.requires.plain in
    let q = c.requires.numbered y on e in
    let fits = departed class c.args.departure.now.class number number c.args.man.now.at c.args.departure.now.from c.args.target k
    c.requires.class refl c.requires.from
    (λ p moved. c.in-Some.ensures.numbers y p on moved) in
    let passes = c.may_allow_en_passant.ensures c.if-may_allow_en_passant.false in
    let stays = sym c.reaches_last_rank.ensures ∙ c.if-reaches_last_rank.false in
    go_escape class number q.0 q.1 (omega (arith, small, on)) c.args.man.now c.args.target c.requires.on (c.requires.going y on e) passes stays
    c.args.game.now.tables.now c.requires.laws c.args.cells.now k fits c.args.level (λ w. c.squares_won.ensures.no y w.0 on e r w.1 w.2)

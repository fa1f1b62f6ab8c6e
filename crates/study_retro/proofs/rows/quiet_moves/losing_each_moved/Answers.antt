use Rattle.std.proofs.Common.{ℕ, ◌+◌, ◌*◌, ◌<◌, arith, refl, sym, ◌∙◌, subst}
use Rattle.std.proofs.lemmas.Bool.{false≢true}
use Rattle.study_board.proofs.SquareLists.{first-of, none-of-empty}
use Rattle.study_retro.proofs.BackLemmas.{departed}
use Rattle.study_retro.proofs.RowEscapeLemmas.{go_below, go_escape, go_won}
use Rattle.study_retro.proofs.SquaresKept.{kept-none, kept-with, kept-without}
use Rattle.study_retro.proofs.rows.quiet_moves.losing_each_moved.Goals as goal

pub loop-square-init : goal.loop-square-init
loop-square-init g c = kept-none _ _ _ _ _ c.into_iter-square-iterator.ensures.into_iter_gives c.empty-losing.ensures

pub bounds-cells-after : goal.bounds-cells-after
bounds-cells-after g c =
    let f = first-of _ _ _ c.in-Some.ensures.steps in
    let t = c.in-Some.square in
    let class = c.args.game.now.class in
    let number = 64 * c.args.departure.now.row + t in
    let k = c.number_to-after.result in
    let small = c.requires.plain in
    let into = c.loop-square.invariant.among t f.inside f.there in
    let q = c.requires.numbered t f.inside into in
    let low : number < 16777216 = let on = f.inside in omega (arith, small, on) in
    let fits = departed class c.args.departure.now.class number number c.args.man.now.at c.args.departure.now.from c.args.target k
    c.requires.class refl c.requires.from c.number_to-after.ensures in
    subst (λ (m : ℕ). k < m) (sym c.requires.cells)
    (go_below class number q.0 q.1 low c.args.man.now c.args.target c.requires.on (c.requires.going t f.inside into) c.requires.passes
    c.requires.stays c.args.game.now.tables.now c.requires.laws c.args.cells.now k fits)

pub loop-square-preserved-then-tells_win : goal.loop-square-preserved-then-tells_win
loop-square-preserved-then-tells_win g c =
    let f = first-of _ _ _ c.in-Some.ensures.steps in
    let t = c.in-Some.square in
    let class = c.args.game.now.class in
    let number = 64 * c.args.departure.now.row + t in
    let k = c.number_to-after.result in
    let small = c.requires.plain in
    let into = c.loop-square.invariant.among t f.inside f.there in
    let q = c.requires.numbered t f.inside into in
    let low : number < 16777216 = let on = f.inside in omega (arith, small, on) in
    let fits = departed class c.args.departure.now.class number number c.args.man.now.at c.args.departure.now.from c.args.target k
    c.requires.class refl c.requires.from c.number_to-after.ensures in
    kept-with _ _ _ _ _ c.loop-square.invariant _ _ f t refl _ _ c.of.ensures c.union-losing.ensures
    (go_won class number q.0 q.1 low c.args.man.now c.args.target c.requires.on (c.requires.going t f.inside into) c.requires.passes
    c.requires.stays c.args.game.now.tables.now c.requires.laws c.args.cells.now k fits c.args.level (c.tells_win.ensures.0 c.if-tells_win.true))

pub loop-square-preserved : goal.loop-square-preserved
loop-square-preserved g c =
    let f = first-of _ _ _ c.in-Some.ensures.steps in
    let t = c.in-Some.square in
    let class = c.args.game.now.class in
    let number = 64 * c.args.departure.now.row + t in
    let k = c.number_to-after.result in
    let small = c.requires.plain in
    let into = c.loop-square.invariant.among t f.inside f.there in
    let q = c.requires.numbered t f.inside into in
    let low : number < 16777216 = let on = f.inside in omega (arith, small, on) in
    let fits = departed class c.args.departure.now.class number number c.args.man.now.at c.args.departure.now.from c.args.target k
    c.requires.class refl c.requires.from c.number_to-after.ensures in
    kept-without _ _ _ _ _ c.loop-square.invariant _ _ f t refl
    (go_escape class number q.0 q.1 low c.args.man.now c.args.target c.requires.on (c.requires.going t f.inside into) c.requires.passes
    c.requires.stays c.args.game.now.tables.now c.requires.laws c.args.cells.now k fits c.args.level
    (λ m. false≢true (sym c.if-tells_win.false ∙ c.tells_win.ensures.1 m)))

pub returns-clause-only : goal.returns-clause-only
returns-clause-only g c = λ y on e. (c.loop-square.invariant.keeps y on e).0

pub returns-clause-yes : goal.returns-clause-yes
returns-clause-yes g c = λ y q on e at. (c.loop-square.invariant.keeps y on e).1 q at

pub returns-clause-no : goal.returns-clause-no
returns-clause-no g c = λ y on e n. c.loop-square.invariant.others y on e (none-of-empty _ c.in-None.ensures.steps.0 y on) n

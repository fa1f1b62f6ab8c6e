use Rattle.std.proofs.Common.{◌+◌, ◌*◌, ◌<◌, arith}
use Rattle.study_retro.specs.RowBack.{IsInRowOrTwin}
use Rattle.study_retro.specs.RowLevels.{IsBeforeRow}
use Rattle.study_retro.specs.Still.{on_square}
use Rattle.study_retro.proofs.BackLemmas.{before_is, set-why}
use Rattle.study_retro.proofs.RowBackLemmas.{fit_before, fit_below, last_led, last_came, came_plainly}
use Rattle.study_retro.proofs.rows.predecessors.write_before_last_at_once.Goals as goal

pub write_row-requires-clause-numbers : goal.write_row-requires-clause-numbers
write_row-requires-clause-numbers g c = λ a ona there.
    let row = c.args.row.now in
    let w = c.origins_in_row-origins.ensures.only a ona there in
    let y = w.0 in
    let number = 64 * row.number + y in
    let q = c.requires.numbered y w.1 w.2 in
    let low : number < 16777216 = let r = row.plain in let on = w.1 in omega (arith, r, on) in
    fit_below row.class number q.0 q.1 low (on_square row.last y) a (64 * c.args.before + a)
    (came_plainly row.class row.last y (c.requires.plainly y w.1 w.2) row.others.items row.to_move a w.3)
    (λ p moved. c.requires.before y a p w.1 ona moved)
    (last_led row.class number y q.0 q.1 row.others.items row.last row.to_move (row.encoded y w.1) c.requires.side a ona w.3)

pub returns-clause-rise : goal.returns-clause-rise
returns-clause-rise g c =
    let row = c.args.row.now in
    set-why c.args.change.cell c.args.change.over (IsInRowOrTwin row.class c.args.before c.origins_in_row-origins.result.squares)
    (IsBeforeRow row.class row.number c.args.decided) c.args.cells.now c.write_row.new.cells
    (λ i v.
    let a = v.0 in
    let ona = v.1 in
    let w = c.origins_in_row-origins.ensures.only a ona v.2 in
    let y = w.0 in
    let number = 64 * row.number + y in
    let q = c.requires.numbered y w.1 w.2 in
    let low : number < 16777216 = let r = row.plain in let on = w.1 in omega (arith, r, on) in
    let before = fit_before row.class number q.0 q.1 low (on_square row.last y) a (64 * c.args.before + a)
    (came_plainly row.class row.last y (c.requires.plainly y w.1 w.2) row.others.items row.to_move a w.3)
    (λ p moved. c.requires.before y a p w.1 ona moved)
    (last_led row.class number y q.0 q.1 row.others.items row.last row.to_move (row.encoded y w.1) c.requires.side a ona w.3) i v.3 in
    (y, w.1, w.2, (on_square row.last y, (a, ona, before))))
    c.write_row.ensures.rise

pub returns-clause-done : goal.returns-clause-done
returns-clause-done g c = λ n y on e b.
    let row = c.args.row.now in
    let a = b.0 in
    let q = c.requires.numbered y on e in
    let came = last_came row.class (64 * row.number + y) y q.0 q.1 row.others.items row.last row.to_move (row.encoded y on) a n b.1 b.2 in
    c.write_row.ensures.done n a b.1 (c.origins_in_row-origins.ensures.all a b.1 (y, on, e, came.1))
    (before_is row.class (64 * row.number + y) q.0 q.1 (on_square row.last y) a (64 * c.args.before + a) (λ p moved. c.requires.before y a p on b.1 moved) n
    b.2)

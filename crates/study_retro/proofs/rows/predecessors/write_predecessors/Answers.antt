use Rattle.std.proofs.Common.{◌≡◌, ◌+◌, ◌*◌, ◌<◌, ℕ, sym, subst, arith}
use Rattle.study_board.specs.Position.{Position}
use Rattle.study_values.specs.Index.{index_of}
use Rattle.study_index.specs.Moved.{IsMoved}
use Rattle.study_retro.specs.RowBack.{IsInRowOrTwin, IsBeforeRowFrom}
use Rattle.study_retro.proofs.BackLemmas.{before_is, set-why}
use Rattle.study_retro.proofs.RowBackLemmas.{fit_before, fit_below}
use Rattle.study_retro.proofs.rows.predecessors.write_predecessors.Goals as goal

pub write_row-requires-clause-numbers : goal.write_row-requires-clause-numbers
write_row-requires-clause-numbers g c = λ y on e.
    let class = c.args.departure.now.class in
    let man = c.args.man.now in
    let a = c.args.origin in
    let number = 64 * c.args.departure.now.row + y in
    let k = 64 * c.in-Some.before + y in
    let q = c.requires.numbered y on e in
    let low : number < 16777216 = let r = c.requires.plain in omega (arith, r, on) in
    let fits : (p : Position) → IsMoved class number man.at a p → index_of p ≡ k =
    λ p moved. c.in-Some.ensures.numbers y p on (subst (λ (x : ℕ). IsMoved class number x a p) (sym c.requires.from) moved) in
    fit_below class number q.0 q.1 low man a k (c.may_allow_en_passant.ensures c.if-may_allow_en_passant.false) fits (c.requires.led y q.0 on e q.1)

pub returns-in-Some-clause-rise : goal.returns-in-Some-clause-rise
returns-in-Some-clause-rise g c =
    let class = c.args.departure.now.class in
    let row = c.args.departure.now.row in
    let man = c.args.man.now in
    let a = c.args.origin in
    let set = c.args.led in
    set-why c.args.change.cell c.args.change.over (IsInRowOrTwin class c.in-Some.before set) (IsBeforeRowFrom class row set man a) c.args.cells.now
    c.write_row.new.cells
    (λ i w.
    let y = w.0 in
    let on = w.1 in
    let e = w.2 in
    let q = c.requires.numbered y on e in
    let low : 64 * row + y < 16777216 = let r = c.requires.plain in omega (arith, r, on) in
    let fits : (p : Position) → IsMoved class (64 * row + y) man.at a p → index_of p ≡ 64 * c.in-Some.before + y =
    λ p moved. c.in-Some.ensures.numbers y p on (subst (λ (x : ℕ). IsMoved class (64 * row + y) x a p) (sym c.requires.from) moved) in (
      y,
      on,
      e,
      fit_before class (64 * row + y) q.0 q.1 low man a (64 * c.in-Some.before + y) (c.may_allow_en_passant.ensures c.if-may_allow_en_passant.false)
          fits (c.requires.led y q.0 on e q.1) i w.3,
    ))
    c.write_row.ensures.rise

pub returns-in-Some-clause-done : goal.returns-in-Some-clause-done
returns-in-Some-clause-done g c = λ n y on e b.
    let class = c.args.departure.now.class in
    let man = c.args.man.now in
    let a = c.args.origin in
    let number = 64 * c.args.departure.now.row + y in
    let q = c.requires.numbered y on e in
    let fits : (p : Position) → IsMoved class number man.at a p → index_of p ≡ 64 * c.in-Some.before + y =
    λ p moved. c.in-Some.ensures.numbers y p on (subst (λ (x : ℕ). IsMoved class number x a p) (sym c.requires.from) moved) in
    c.write_row.ensures.done n y on e (before_is class number q.0 q.1 man a (64 * c.in-Some.before + y) fits n b)

use Rattle.std.proofs.Common.{◌≡◌, sym, ◌∙◌}
use Rattle.std.proofs.lemmas.Bool.{false≢true}
use Rattle.study_board.proofs.SquareLists.{first-of, none-of-empty}
use Rattle.study_retro.proofs.SquaresKept.{first-as, kept-none, kept-with, kept-without}
use Rattle.study_retro.proofs.rows.quiet_moves.squares_won.Goals as goal

pub loop-square-init : goal.loop-square-init
loop-square-init c = kept-none _ _ _ _ _ c.into_iter-square-iterator.ensures.into_iter_gives c.empty-won.ensures

pub bounds-cells-number : goal.bounds-cells-number
bounds-cells-number c =
    let f = first-as _ _ _ c.from.result c.in-Some.ensures.steps (c.from.ensures ∙ c.number.ensures.value) in
    c.requires.cells c.from.result f.inside (c.loop-square.invariant.among c.from.result f.inside f.there)

pub loop-square-preserved-then-tells_win : goal.loop-square-preserved-then-tells_win
loop-square-preserved-then-tells_win c =
    let f = first-of _ _ _ c.in-Some.ensures.steps in
    let same : c.from.result ≡ c.in-Some.square = c.from.ensures ∙ c.number.ensures.value in
    kept-with _ _ _ _ _ c.loop-square.invariant _ _ f c.from.result same _ _ c.of.ensures c.union-won.ensures
    (c.tells_win.ensures.0 c.if-tells_win.true)

pub loop-square-preserved : goal.loop-square-preserved
loop-square-preserved c =
    let f = first-of _ _ _ c.in-Some.ensures.steps in
    let same : c.from.result ≡ c.in-Some.square = c.from.ensures ∙ c.number.ensures.value in
    kept-without _ _ _ _ _ c.loop-square.invariant _ _ f c.from.result same (λ k. false≢true (sym c.if-tells_win.false ∙ c.tells_win.ensures.1 k))

pub returns-clause-yes : goal.returns-clause-yes
returns-clause-yes c = λ y on e. c.loop-square.invariant.keeps y on e

pub returns-clause-no : goal.returns-clause-no
returns-clause-no c = λ y m on e f w small. c.loop-square.invariant.others y on e (none-of-empty _ c.in-None.ensures.steps.0 y on) f (m, w, small)

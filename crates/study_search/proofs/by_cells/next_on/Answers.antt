use Rattle.std.proofs.Common.{arith, sym, ◌∙◌}
use Rattle.study_search.specs.Finding.{IsNext}
use Rattle.study_search.specs.ByCells.{IsZugzwangAt, IsFoundOn}
use Rattle.study_search.proofs.ZugzwangCells.{none-wanted, next-wanted, within-more, if-ok}
use Rattle.study_search.proofs.by_cells.next_on.Goals as goal

pub first_on-first-requires : goal.first_on-first-requires
first_on-first-requires g c =
    let page = c.requires.page in
    let value = c.side_step-step.ensures.value in
    let small = c.side_step-step.ensures.small in
    omega (arith, page, value, small)

pub end_on-end-requires : goal.end_on-end-requires
end_on-end-requires g c =
    let page = c.requires.page in
    let value = c.side_step-step.ensures.value in
    let small = c.side_step-step.ensures.small in
    omega (arith, page, value, small)

pub returns-then-not-wanted-clause-game : goal.returns-then-not-wanted-clause-game
returns-then-not-wanted-clause-game g c h =
    none-wanted c.args.search.now c.requires.theme c.args.page c.side_on.result c.requires.whole c.requires.page c.side_on.ensures.white
    c.side_on.ensures.black c.args.from c.args.to (sym c.is_for-wanted.ensures ∙ c.if-not-wanted.true)

pub returns-clause-game : goal.returns-clause-game
returns-clause-game g c h =
    if-ok (IsNext (IsZugzwangAt c.args.search.now.class) c.first_on-first.result c.end_on-end.result)
    (IsNext (IsFoundOn c.args.search.now c.args.page) c.args.from c.args.to)
    c.next_on_page.result
    (λ next found. next-wanted c.args.search.now c.requires.theme c.args.page c.side_on.result c.requires.whole c.requires.page c.side_on.ensures.white
    c.side_on.ensures.black c.args.from c.args.to c.first_on-first.result c.end_on-end.result next (sym c.is_for-wanted.ensures ∙ c.if-not-wanted.false)
    c.first_on-first.ensures.on c.first_on-first.ensures.from c.first_on-first.ensures.least c.end_on-end.ensures.on c.end_on-end.ensures.to
    c.end_on-end.ensures.most found) (c.next_on_page.ensures.game h)

pub returns-clause-within : goal.returns-clause-within
returns-clause-within g c =
    within-more c.args.from c.args.to c.first_on-first.result c.end_on-end.result c.next_on_page.result c.first_on-first.ensures.from c.end_on-end.ensures.to
    c.next_on_page.ensures.within

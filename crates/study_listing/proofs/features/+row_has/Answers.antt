use Rattle.study_material.specs.Needs.{NeedsClass}
use Rattle.study_search.proofs.Faults.{needs-after, if-wider, if_reported}
use Rattle.study_listing.proofs.RowFeatures.{row-behind, line-first, line-second}
use Rattle.study_listing.proofs.features.+row_has.Goals as goal

pub returns-in-Some-split_first-clause-game : goal.returns-in-Some-split_first-clause-game
returns-in-Some-split_first-clause-game g t c h =
    row-behind c.args.feature c.args.p.now c.played-next.result c.played-last.result c.in-Some.m.now c.in-Some-split_first.r.now c.args.row.now
    c.in-Some.rest.now c.in-Some-split_first.more.now c.in-Ok-false.field-0 c.row_has.result c.in-Some.ensures.cases.0
    c.in-Some-split_first.ensures.cases.0 c.played-next.ensures.value c.played-last.ensures.value (c.in-Ok-false.ensures.game h)
    c.in-Ok-false.field-0-test (c.row_has.ensures.game (c.move_has.ensures.honest h))

pub returns-in-Some-split_first-clause-faults : goal.returns-in-Some-split_first-clause-faults
returns-in-Some-split_first-clause-faults g t c =
    let source = g.V.Values.source in
    let first = line-first c.args.p.now c.in-Some.m.now c.args.row.now c.in-Some.rest.now c.in-Some.ensures.cases.0 c.requires.line in
    let second = line-second c.args.p.now c.played-next.result c.in-Some.m.now c.in-Some-split_first.r.now c.args.row.now c.in-Some.rest.now
    c.in-Some-split_first.more.now c.in-Some.ensures.cases.0 c.in-Some-split_first.ensures.cases.0 c.played-next.ensures.value c.requires.line in
    let on = needs-after c.args.p.now c.played-next.result c.in-Some.m.now c.men-men.ensures.valid first c.played-next.ensures.value in
    let last = needs-after c.played-next.result c.played-last.result c.in-Some-split_first.r.now c.men-next_men.ensures.valid second
    c.played-last.ensures.value in
    if-wider source (NeedsClass c.played-last.result) (NeedsClass c.args.p.now) (λ k n. on k (last k n)) c.args.values.now c.row_has.result
    (if_reported source (NeedsClass c.played-last.result) c.args.values.now c.move_has.new.values c.row_has.result c.row_has.ensures.faults
    c.move_has.ensures.tables c.move_has.ensures.honest)

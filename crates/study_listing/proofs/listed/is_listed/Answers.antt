use Rattle.study_material.specs.Needs.{NeedsClass}
use Rattle.study_search.proofs.Faults.{if-wider, if_reported}
use Rattle.study_listing.proofs.Keys.{if-shown, not-through}
use Rattle.study_listing.proofs.listed.is_listed.Goals as goal

pub returns-in-Ok-true-clause-game : goal.returns-in-Ok-true-clause-game
returns-in-Ok-true-clause-game g c h sought shown =
    if-shown c.args.selection.now c.args.p.now c.args.image.now c.has_wanted_row.result sought
    ((c.in-Ok-true.ensures.game h sought).0 c.in-Ok-true.field-0-test) shown (c.has_wanted_row.ensures.game (c.is_let_through.ensures.honest h))

pub returns-in-Ok-false-clause-game : goal.returns-in-Ok-false-clause-game
returns-in-Ok-false-clause-game g c h sought shown =
    not-through c.args.selection.now c.args.p.now c.in-Ok-false.field-0 (c.in-Ok-false.ensures.game h sought) c.in-Ok-false.field-0-test

pub returns-in-Ok-true-clause-faults : goal.returns-in-Ok-true-clause-faults
returns-in-Ok-true-clause-faults g c =
    let source = g.V.Values.source in
    if-wider source (NeedsClass c.args.image.now) (NeedsClass c.args.p.now) c.requires.needs c.args.values.now c.has_wanted_row.result
    (if_reported source (NeedsClass c.args.image.now) c.args.values.now c.is_let_through.new.values c.has_wanted_row.result
    c.has_wanted_row.ensures.faults c.is_let_through.ensures.tables c.is_let_through.ensures.honest)

use Rattle.study_values.specs.Index.{index_of}
use Rattle.study_listing.specs.Lists.{IsEarlierKin}
use Rattle.study_listing.proofs.Kin.{among-here, among-on}
use Rattle.study_listing.proofs.families.+has_kin_among.Goals as goal

pub returns-in-Ok-true-clause-game : goal.returns-in-Ok-true-clause-game
returns-in-Ok-true-clause-game g t c h =
    among-here (IsEarlierKin c.args.selection.now (index_of c.args.p.now) c.args.key.now.outcome c.args.key.now.played) c.args.p.now
    c.in-Some.man.now c.in-Some.rest.now c.args.men.now c.in-Some.ensures.cases.0 ((c.in-Ok-true.ensures.game h).0 c.in-Ok-true.field-0-test)

pub returns-in-Ok-false-clause-game : goal.returns-in-Ok-false-clause-game
returns-in-Ok-false-clause-game g t c h =
    among-on (IsEarlierKin c.args.selection.now (index_of c.args.p.now) c.args.key.now.outcome c.args.key.now.played) c.args.p.now
    c.in-Some.man.now c.in-Some.rest.now c.args.men.now c.in-Ok-false.field-0 c.has_kin_among.result c.in-Some.ensures.cases.0
    (c.in-Ok-false.ensures.game h) c.in-Ok-false.field-0-test (c.has_kin_among.ensures.game (c.has_kin_below.ensures.honest h))

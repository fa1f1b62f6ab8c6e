use Rattle.study_listing.proofs.Keys.{if-through}
use Rattle.study_listing.proofs.listed.is_let_through.Goals as goal

pub returns-in-Ok-true-has_wanted_key-clause-game : goal.returns-in-Ok-true-has_wanted_key-clause-game
returns-in-Ok-true-has_wanted_key-clause-game g c h sought =
    let honest = c.is_one_of_pair.ensures.honest h in
    if-through c.args.selection.now c.args.p.now c.has_wanted_result.result ((c.in-Ok-true.ensures.game h sought).0 c.in-Ok-true.field-0-test)
    ((c.in-Ok-true-has_wanted_key.ensures.game honest).0 c.in-Ok-true-has_wanted_key.field-0-test)
    (c.has_wanted_result.ensures.game (c.has_wanted_key.ensures.honest honest))

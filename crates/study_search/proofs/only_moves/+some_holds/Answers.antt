use Rattle.std.proofs.Common.{refl}
use Rattle.study_moves.specs.Rules.{after}
use Rattle.study_search.specs.OnlyMoves.{Holds}
use Rattle.study_search.proofs.OnlyMoves.{some-later}
use Rattle.study_search.proofs.only_moves.+some_holds.Goals as goal

pub returns-in-Ok-false-clause-game : goal.returns-in-Ok-false-clause-game
returns-in-Ok-false-clause-game g t c h =
    some-later (Holds c.args.outcome) c.args.p.now c.in-Some.m.now c.args.moves.now c.in-Some.rest.now (after c.args.p.now c.in-Some.m.now) c.in-Ok-false.field-0
    c.some_holds.result c.in-Some.ensures.cases.0 refl c.in-Ok-false.field-0-test (c.in-Ok-false.ensures.game h)
    (c.some_holds.ensures.game (c.holds_after.ensures.honest h))

use Rattle.study_zugzwang.specs.Zugzwang.{IsZugzwang, handed_on}
use Rattle.study_search.specs.OnlyMoves.{Holds}
use Rattle.study_search.proofs.OneMove.{both-by, not-first}
use Rattle.study_search.proofs.zugzwang.is_zugzwang_of.Goals as goal

pub returns-in-Ok-false-clause-game : goal.returns-in-Ok-false-clause-game
returns-in-Ok-false-clause-game g c h =
    not-first (IsZugzwang c.args.p.now) (Holds c.args.outcome (handed_on c.args.p.now)) c.in-Ok-false.field-0 (c.in-Ok-false.ensures.game h)
    c.in-Ok-false.field-0-test

pub returns-in-Ok-true-clause-game : goal.returns-in-Ok-true-clause-game
returns-in-Ok-true-clause-game g c h =
    let zugzwang : IsZugzwang c.args.p.now = (c.in-Ok-true.ensures.game h).0 c.in-Ok-true.field-0-test in
    both-by (IsZugzwang c.args.p.now) (Holds c.args.outcome (handed_on c.args.p.now)) c.in-Ok-true.field-0 c.holds_on.result
    (c.in-Ok-true.ensures.game h) c.in-Ok-true.field-0-test (c.holds_on.ensures.game (c.is_zugzwang.ensures.honest h) zugzwang.either.other)

use Rattle.std.proofs.Common.{rules, subst}
use Rattle.study_board.specs.Position.{Position}
use Rattle.study_material.specs.Needs.{NeedsClass}
use Rattle.study_search.specs.OnlyMoves.{HasOnlyMoves}
use Rattle.study_search.proofs.Faults.{needs-after, reported-wider}
use Rattle.study_search.proofs.OneRow.{first-here, first-later}
use Rattle.study_search.proofs.rows.+first_leading.Goals as goal

pub returns-in-Err-clause-faults : goal.returns-in-Err-clause-faults
returns-in-Err-clause-faults g t c =
    reported-wider g.V.Values.source (NeedsClass c.played-next.result) (NeedsClass c.args.q.now)
    (needs-after c.args.q.now c.played-next.result c.in-Some.r.now c.men-men.ensures.valid (search rules) c.played-next.ensures.value)
    c.args.values.now c.in-Err.fault c.in-Err.ensures.faults

pub returns-in-Ok-true-clause-game : goal.returns-in-Ok-true-clause-game
returns-in-Ok-true-clause-game g t c h =
    first-here (HasOnlyMoves c.args.outcome c.args.n) c.args.q.now c.in-Some.r.now c.in-Some.rest.now c.args.replies.now c.in-Some.ensures.cases.0
    (subst (λ (x : Position). HasOnlyMoves c.args.outcome c.args.n x) c.played-next.ensures.value
    ((c.in-Ok-true.ensures.game h).0 c.in-Ok-true.field-0-test))

pub returns-in-Ok-false-clause-game : goal.returns-in-Ok-false-clause-game
returns-in-Ok-false-clause-game g t c h =
    first-later (HasOnlyMoves c.args.outcome c.args.n) c.args.q.now c.in-Some.r.now c.in-Some.rest.now c.args.replies.now c.played-next.result
    c.in-Ok-false.field-0 c.first_leading.result c.in-Some.ensures.cases.0 c.played-next.ensures.value c.in-Ok-false.field-0-test
    (c.in-Ok-false.ensures.game h) (c.first_leading.ensures.game (c.has_only_moves.ensures.honest h))

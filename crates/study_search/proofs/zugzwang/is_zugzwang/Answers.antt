use Rattle.study_search.proofs.HalfPoints.{none-won, zugzwang-left}
use Rattle.study_search.proofs.zugzwang.is_zugzwang.Goals as goal

pub returns-then-points-eq2-clause-game : goal.returns-then-points-eq2-clause-game
returns-then-points-eq2-clause-game g c h =
    none-won c.values_are_unique.ensures c.args.p.now c.in-Ok.points (c.in-Ok.ensures.game h) c.if-points-eq2.true

pub returns-else-points-eq2-clause-game : goal.returns-else-points-eq2-clause-game
returns-else-points-eq2-clause-game g c h =
    zugzwang-left c.values_are_unique.ensures c.args.p.now c.in-Ok.points c.other_scores_less.result (c.in-Ok.ensures.game h)
    c.in-Ok.ensures.few (c.other_scores_less.ensures.game (c.score.ensures.honest h))

use Rattle.study_zugzwang.proofs.Zugzwangs.{less-by}
use Rattle.study_search.proofs.zugzwang.scores_less_than.Goals as goal

pub returns-in-Ok-clause-game : goal.returns-in-Ok-clause-game
returns-in-Ok-clause-game g c h = less-by c.values_are_unique.ensures c.args.p.now c.in-Ok.points c.args.limit (c.in-Ok.ensures.game h)

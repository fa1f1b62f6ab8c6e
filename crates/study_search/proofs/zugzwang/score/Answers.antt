use Rattle.std.proofs.Common.{sym}
use Rattle.study_search.proofs.zugzwang.score.Goals as goal

pub returns-in-Ok-clause-game : goal.returns-in-Ok-clause-game
returns-in-Ok-clause-game g c h = (c.in-Ok.value, c.in-Ok.ensures.game h, sym c.half_points.ensures.value)

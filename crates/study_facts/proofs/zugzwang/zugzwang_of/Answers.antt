use Rattle.study_facts.specs.Asked.{within}
use Rattle.study_facts.proofs.AskedSteps.{asked-then}
use Rattle.study_facts.proofs.zugzwang.zugzwang_of.Goals as goal

pub returns-in-Ok-clause-game : goal.returns-in-Ok-clause-game
returns-in-Ok-clause-game g c h = c.kind_beside.ensures.game (c.in-Ok.ensures.game h) (c.score.ensures.honest h)

pub returns-in-Ok-clause-evaluated : goal.returns-in-Ok-clause-evaluated
returns-in-Ok-clause-evaluated g c =
    asked-then (within c.args.p.now g.V.Values.source) c.args.values.now c.score.new.values c.kind_beside.new.values
    c.kind_beside.result c.in-Ok.ensures.evaluated c.kind_beside.ensures.evaluated

use Rattle.std.proofs.Common.{rules}
use Rattle.study_facts.proofs.Within.{leads-to, stops-wider, all-wider}
use Rattle.study_facts.proofs.BestSteps.{play-evaluated}
use Rattle.study_review.proofs.best_play_lines.play_from.Goals as goal

pub returns-in-Ok-clause-game : goal.returns-in-Ok-clause-game
returns-in-Ok-clause-game g c all h =
    play-evaluated c.args.p.now c.played-next.result c.in-Some.best c.args.evaluated.now c.new-list.result.items c.push.new.self.items c.play_on.new.list.items
    c.best_of.result all c.best_of.ensures.best c.in-Some.is c.played-next.ensures.value c.new-list.ensures c.push.ensures.items (c.in-Ok.ensures.game h)

pub returns-in-Err-clause-asked : goal.returns-in-Err-clause-asked
returns-in-Err-clause-asked g c =
    stops-wider g.V.Values.source
    c.args.p.now c.played-next.result (leads-to c.args.p.now c.played-next.result c.in-Some.best.played (c.in-Some.ensures.legal) c.played-next.ensures.value)
    c.args.values.now c.play_on.new.values c.in-Err.fault (search rules)

pub returns-in-Ok-clause-asked : goal.returns-in-Ok-clause-asked
returns-in-Ok-clause-asked g c =
    all-wider g.V.Values.source
    c.args.p.now c.played-next.result (leads-to c.args.p.now c.played-next.result c.in-Some.best.played (c.in-Some.ensures.legal) c.played-next.ensures.value)
    c.args.values.now c.play_on.new.values (search rules)

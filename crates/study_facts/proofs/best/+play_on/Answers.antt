use Rattle.std.proofs.Common.{◌≡◌, true, Option, map, subst, IfSome}
use Rattle.study_moves.specs.Rules.{is_legal, after}
use Rattle.study_moves.specs.LegalList.{legal_list}
use Rattle.study_facts.specs.Asked.{within}
use Rattle.study_facts.proofs.Within.{leads-to, each-legal, some-evaluated, has-wider, some-fault}
use Rattle.study_facts.proofs.NotHeld.{no_value-not-held}
use Rattle.study_facts.specs.declared.continuation.EvaluatedMove.{EvaluatedMove}
use Rattle.study_facts.specs.Best.{IsBestMove}
use Rattle.study_facts.proofs.AskedSteps.{asked-then}
use Rattle.study_facts.proofs.BestSteps.{play-ends, play-goes-on, legal-goes-on}
use Rattle.study_facts.proofs.best.+play_on.Goals as goal

pub returns-in-Ok-None-clause-game : goal.returns-in-Ok-None-clause-game
returns-in-Ok-None-clause-game g t c h =
    play-ends c.args.plies c.args.p.now c.args.list.now.items c.if-plies-eq0.false
    (subst (λ (o : Option EvaluatedMove). IsBestMove c.args.p.now o) c.in-Ok-None.field-0-is (c.in-Ok-None.ensures.game h))

pub returns-in-Ok-Some-clause-game : goal.returns-in-Ok-Some-clause-game
returns-in-Ok-Some-clause-game g t c h =
    play-goes-on c.args.plies c.args.p.now c.played-next.result c.in-Ok-Some.best c.args.list.now.items c.push.new.self.items
    c.play_on.new.list.items c.play_on.result c.if-plies-eq0.false
    (subst (λ (o : Option EvaluatedMove). IsBestMove c.args.p.now o) c.in-Ok-Some.field-0-is (c.in-Ok-Some.ensures.game h))
    c.played-next.ensures.value c.push.ensures.items (c.play_on.ensures.game (c.best_move.ensures.honest h))

pub returns-in-Err-clause-no_value : goal.returns-in-Err-clause-no_value
returns-in-Err-clause-no_value g t c k e =
    no_value-not-held (g.V.Values.source.held c.args.values.now) (map (after c.args.p.now) (legal_list c.args.p.now)) c.in-Err.fault k
    c.in-Err.ensures.no_value e

pub returns-in-Ok-Some-clause-evaluated : goal.returns-in-Ok-Some-clause-evaluated
returns-in-Ok-Some-clause-evaluated g t c =
    asked-then (within c.args.p.now g.V.Values.source) c.args.values.now c.best_move.new.values c.play_on.new.values
    c.play_on.result
    (some-evaluated g.V.Values.source c.args.p.now c.args.values.now c.best_move.new.values (map (after c.args.p.now) (legal_list c.args.p.now))
    (each-legal c.args.p.now) c.in-Ok-Some.ensures.evaluated)
    (has-wider g.V.Values.source c.args.p.now c.played-next.result
    (leads-to c.args.p.now c.played-next.result c.in-Ok-Some.best.played
    (subst (λ (o : Option EvaluatedMove). IfSome o (λ x. is_legal c.args.p.now x.played ≡ true)) c.in-Ok-Some.field-0-is c.in-Ok-Some.ensures.legal)
    c.played-next.ensures.value)
    c.best_move.new.values c.play_on.new.values c.play_on.result c.play_on.ensures.evaluated)

pub returns-in-Ok-Some-clause-legal : goal.returns-in-Ok-Some-clause-legal
returns-in-Ok-Some-clause-legal g t c =
    legal-goes-on c.args.p.now c.played-next.result c.in-Ok-Some.best c.args.list.now.items c.push.new.self.items c.play_on.new.list.items
    c.play_on.result
    (subst (λ (o : Option EvaluatedMove). IfSome o (λ x. is_legal c.args.p.now x.played ≡ true)) c.in-Ok-Some.field-0-is c.in-Ok-Some.ensures.legal)
    c.played-next.ensures.value c.push.ensures.items c.play_on.ensures.legal

pub returns-in-Err-clause-evaluated : goal.returns-in-Err-clause-evaluated
returns-in-Err-clause-evaluated g t c =
    some-fault g.V.Values.source c.args.p.now (g.V.Values.source.held c.args.values.now) c.args.values.now c.best_move.new.values
    (map (after c.args.p.now) (legal_list c.args.p.now)) c.in-Err.fault (each-legal c.args.p.now) c.in-Err.ensures.no_value c.in-Err.ensures.first

pub returns-in-Ok-None-clause-evaluated : goal.returns-in-Ok-None-clause-evaluated
returns-in-Ok-None-clause-evaluated g t c =
    some-evaluated g.V.Values.source c.args.p.now c.args.values.now c.best_move.new.values
    (map (after c.args.p.now) (legal_list c.args.p.now)) (each-legal c.args.p.now) c.in-Ok-None.ensures.evaluated

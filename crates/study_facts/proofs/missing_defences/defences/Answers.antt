use Rattle.std.proofs.Common.{map}
use Rattle.study_moves.specs.Rules.{after}
use Rattle.study_facts.specs.Continuations.{moves_except}
use Rattle.study_facts.specs.Asked.{within}
use Rattle.study_facts.proofs.Within.{each-other, some-evaluated, some-fault}
use Rattle.study_facts.proofs.NotHeld.{no_value-not-held}
use Rattle.study_facts.proofs.AskedSteps.{evaluated-then, fault-then}
use Rattle.study_facts.proofs.missing_defences.defences.Goals as goal

pub returns-in-Err-clause-no_value : goal.returns-in-Err-clause-no_value
returns-in-Err-clause-no_value g c k e =
    let p = c.args.node.now.position.now in
    no_value-not-held (g.V.Values.source.held c.args.values.now) (map (after p) (moves_except c.args.there.now p)) c.in-Err.fault k c.in-Err.ensures.no_value e

pub returns-in-Err-push_defences-clause-evaluated : goal.returns-in-Err-push_defences-clause-evaluated
returns-in-Err-push_defences-clause-evaluated g c =
    let p = c.args.node.now.position.now in
    fault-then (within c.args.node.now.position.now g.V.Values.source) c.args.values.now
    c.missing_moves.new.values c.push_defences.new.values c.in-Err-push_defences.fault
    (some-evaluated g.V.Values.source p c.args.values.now c.missing_moves.new.values (map (after p) (moves_except c.args.there.now p))
    (each-other p c.args.there.now) c.in-Ok.ensures.evaluated) c.in-Err-push_defences.ensures.evaluated

pub returns-in-Ok-push_defences-clause-evaluated : goal.returns-in-Ok-push_defences-clause-evaluated
returns-in-Ok-push_defences-clause-evaluated g c =
    let p = c.args.node.now.position.now in
    evaluated-then (within c.args.node.now.position.now g.V.Values.source) c.args.values.now c.missing_moves.new.values c.push_defences.new.values
    (some-evaluated g.V.Values.source p c.args.values.now c.missing_moves.new.values (map (after p) (moves_except c.args.there.now p))
    (each-other p c.args.there.now) c.in-Ok.ensures.evaluated) c.in-Ok-push_defences.ensures.evaluated

pub returns-in-Err-clause-evaluated : goal.returns-in-Err-clause-evaluated
returns-in-Err-clause-evaluated g c =
    let p = c.args.node.now.position.now in
    some-fault g.V.Values.source p (g.V.Values.source.held c.args.values.now) c.args.values.now c.missing_moves.new.values
    (map (after p) (moves_except c.args.there.now p)) c.in-Err.fault (each-other p c.args.there.now) c.in-Err.ensures.no_value c.in-Err.ensures.first

use Rattle.study_facts.specs.Asked.{within}
use Rattle.study_facts.proofs.Asking.{all-then, asks-then, same-asks}
use Rattle.study_review.proofs.MovesReported.{no-alternatives, more-alternatives}
use Rattle.study_review.proofs.fault_lines.+add_alternatives.Goals as goal

pub returns-in_err-later-in-Some-clause-asked : goal.returns-in_err-later-in-Some-clause-asked
returns-in_err-later-in-Some-clause-asked g t c =
    asks-then (within c.args.step.now.before.position.now g.V.Values.source)
    c.args.values.now c.add_alternative.new.values c.add_alternatives.new.values c.from_residual-in_err-later-in-Some.result
    c.in_ok-here-in-Some.ensures.asked
    (same-asks (within c.args.step.now.before.position.now g.V.Values.source)
    c.add_alternative.new.values c.add_alternatives.new.values c.from_residual-in_err-later-in-Some.result c.in_err-later-in-Some.field-0.0
    c.from_residual-in_err-later-in-Some.ensures.1
    c.in_err-later-in-Some.ensures.asked)

pub returns-in-None-clause-text : goal.returns-in-None-clause-text
returns-in-None-clause-text g t c h =
    no-alternatives c.args.step.now.steps.now c.args.step.now.before.aim.now c.args.step.now.before.depth c.args.step.now.line.now
    c.args.step.now.before.position.now c.args.step.now.played c.args.evaluated.now c.args.text.now c.in-None.ensures.cases

pub returns-in_ok-later-in-Some-clause-text : goal.returns-in_ok-later-in-Some-clause-text
returns-in_ok-later-in-Some-clause-text g t c h =
    more-alternatives c.args.step.now.steps.now c.args.step.now.before.aim.now c.args.step.now.before.depth c.args.step.now.line.now
    c.args.step.now.before.position.now c.args.step.now.played c.in-Some.x.now
    c.args.evaluated.now c.in-Some.rest.now c.in_ok-here-in-Some.here c.in_ok-later-in-Some.later c.args.text.now c.add_alternative.new.text
    c.add_alternatives.new.text c.in-Some.ensures.cases.0 (c.in_ok-here-in-Some.ensures.text h)
    (c.in_ok-later-in-Some.ensures.text (c.in_ok-here-in-Some.ensures.asked.honest h))

pub returns-in_ok-later-in-Some-clause-asked : goal.returns-in_ok-later-in-Some-clause-asked
returns-in_ok-later-in-Some-clause-asked g t c =
    all-then (within c.args.step.now.before.position.now g.V.Values.source)
    c.args.values.now c.add_alternative.new.values c.add_alternatives.new.values c.in_ok-here-in-Some.ensures.asked
    c.in_ok-later-in-Some.ensures.asked

use Rattle.std.proofs.Common.{◌≡◌, ◌<◌, ◌++◌, ◌∷◌, [], arith, sym, ap, subst, ◌∙◌}
use Rattle.study_view.specs.Survey.{IsStanding}
use Rattle.study_facts.specs.Asked.{within}
use Rattle.study_view.proofs.AllAsked.{some-then}
use Rattle.study_view.proofs.Standings.{adds-past, adds-one}
use Rattle.study_view.proofs.survey_squares.+push_results_from.Goals as goal

pub returns-then-number-clause-game : goal.returns-then-number-clause-game
returns-then-number-clause-game g t c h =
    let q = c.args.question.now in
    adds-past q.position.now q.square c.args.number q.stipulation.now c.args.list.now.items c.push_results_from.new.list.items c.push_results_from.result
    (let z : c.args.number < 64 = omega (arith, c.if-number-ge64.false) in z)
    (let z : c.args.number ≡ q.square = omega (arith, c.if-number.true, c.number.ensures.value) in z) (c.push_results_from.ensures.game h)

pub returns-in-Ok-clause-game : goal.returns-in-Ok-clause-game
returns-in-Ok-clause-game g t c h =
    let q = c.args.question.now in
    let old = c.args.list.now.items in
    let s = c.in-Ok.standing in
    adds-one q.position.now q.square c.args.number q.stipulation.now s old c.push_result.new.list.items c.push_results_from-in-Ok.new.list.items
    c.push_results_from-in-Ok.result (let z : c.args.number < 64 = omega (arith, c.if-number-ge64.false) in z)
    (λ e. c.if-number.false (e ∙ sym c.number.ensures.value))
    (subst (λ k. IsStanding q.position.now q.square q.stipulation.now k s) c.at-x.ensures (c.in-Ok.ensures.game h))
    (c.push_result.ensures.items ∙ ap (λ k. old ++ (record { at = k; standing = s }) ∷ []) c.at-x.ensures)
    (c.push_results_from-in-Ok.ensures.game (c.in-Ok.ensures.asked.honest h))

pub returns-in-Ok-clause-asked : goal.returns-in-Ok-clause-asked
returns-in-Ok-clause-asked g t c =
    some-then (within c.args.question.now.position.now g.V.Values.source)
    c.args.values.now c.result_on.new.values c.push_results_from-in-Ok.new.values c.push_results_from-in-Ok.result c.in-Ok.ensures.asked
    c.push_results_from-in-Ok.ensures.asked

use Rattle.std.proofs.Common.{rules, ◌≡◌, true, ◌↔◌, sym, subst}
use Rattle.study_board.specs.Position.{IsValid}
use Rattle.study_facts.specs.Repetition.{HasLost}
use Rattle.study_values.specs.Values.{ProbeAnswer}
use Rattle.study_facts.specs.Asked.{HasProbed, within}
use Rattle.study_facts.proofs.Within.{own-answer}
use Rattle.study_facts.proofs.AskedSteps.{asked-one}
use Rattle.study_facts.proofs.BackSteps.{lost-by}
use Rattle.study_facts.proofs.repetition.is_lost.Goals as goal

pub returns-in-Ok-clause-game : goal.returns-in-Ok-clause-game
returns-in-Ok-clause-game g c h =
    subst (λ b. (b ≡ true) ↔ HasLost c.args.q.now) (sym c.hero_loses.ensures)
    (lost-by c.values_are_unique.ensures c.args.q.now c.in-Ok.value (c.in-Ok.ensures.game h))

pub returns-in-Err-clause-evaluated : goal.returns-in-Err-clause-evaluated
returns-in-Err-clause-evaluated g c =
    let valid : IsValid c.args.q.now = search rules in
    subst (λ (r : ProbeAnswer). HasProbed (within c.args.q.now g.V.Values.source) c.args.values.now r c.value.new.self) c.in-Err.is
    (asked-one (within c.args.q.now g.V.Values.source) c.args.values.now
    c.value.new.self c.args.q.now c.value.result valid
    (own-answer g.V.Values.source c.args.values.now c.args.q.now c.value.result c.value.ensures.given (λ k e. ((c.value.ensures.no_table k).0 e).0))
    c.value.ensures.asked
    c.value.ensures.failed_so c.value.ensures.fails_as_before)

pub returns-in-Ok-clause-evaluated : goal.returns-in-Ok-clause-evaluated
returns-in-Ok-clause-evaluated g c =
    let valid : IsValid c.args.q.now = search rules in
    subst (λ (r : ProbeAnswer). HasProbed (within c.args.q.now g.V.Values.source) c.args.values.now r c.value.new.self) c.in-Ok.is
    (asked-one (within c.args.q.now g.V.Values.source) c.args.values.now
    c.value.new.self c.args.q.now c.value.result valid
    (own-answer g.V.Values.source c.args.values.now c.args.q.now c.value.result c.value.ensures.given (λ k e. ((c.value.ensures.no_table k).0 e).0))
    c.value.ensures.asked
    c.value.ensures.failed_so c.value.ensures.fails_as_before)

use Rattle.std.proofs.Common.{rules, subst}
use Rattle.study_board.specs.Position.{IsValid}
use Rattle.study_values.specs.Values.{ProbeAnswer}
use Rattle.study_facts.specs.Asked.{within}
use Rattle.study_facts.proofs.Within.{own-answer}
use Rattle.study_facts.proofs.Asking.{Answered, value-answered}
use Rattle.study_review.proofs.probe.value_of.Goals as goal

pub returns-in-Err-clause-asked : goal.returns-in-Err-clause-asked
returns-in-Err-clause-asked g c =
    let valid : IsValid c.args.q.now = search rules in
    subst (λ (r : ProbeAnswer). Answered (within c.args.q.now g.V.Values.source) c.args.values.now r c.value.new.self) c.in-Err.is
    (value-answered (within c.args.q.now g.V.Values.source)
    c.args.values.now c.value.new.self c.args.q.now c.value.result valid
    (own-answer g.V.Values.source c.args.values.now c.args.q.now c.value.result c.value.ensures.given (λ k e. ((c.value.ensures.no_table k).0 e).0))
    c.value.ensures.asked c.value.ensures.failed_so c.value.ensures.fails_as_before
    (λ k e. ((c.value.ensures.no_table k).0 e).1) c.value.ensures.no_damage c.value.ensures.failures c.value.ensures.stays_honest c.value.ensures.same_tables)

pub returns-in-Ok-clause-asked : goal.returns-in-Ok-clause-asked
returns-in-Ok-clause-asked g c =
    let valid : IsValid c.args.q.now = search rules in
    subst (λ (r : ProbeAnswer). Answered (within c.args.q.now g.V.Values.source) c.args.values.now r c.value.new.self) c.in-Ok.is
    (value-answered (within c.args.q.now g.V.Values.source)
    c.args.values.now c.value.new.self c.args.q.now c.value.result valid
    (own-answer g.V.Values.source c.args.values.now c.args.q.now c.value.result c.value.ensures.given (λ k e. ((c.value.ensures.no_table k).0 e).0))
    c.value.ensures.asked c.value.ensures.failed_so c.value.ensures.fails_as_before
    (λ k e. ((c.value.ensures.no_table k).0 e).1) c.value.ensures.no_damage c.value.ensures.failures c.value.ensures.stays_honest c.value.ensures.same_tables)

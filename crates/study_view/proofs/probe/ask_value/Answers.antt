use Rattle.std.proofs.Common.{rules}
use Rattle.study_board.specs.Position.{IsValid}
use Rattle.study_facts.specs.Asked.{within}
use Rattle.study_facts.proofs.Within.{own-answer}
use Rattle.study_view.proofs.AllAsked.{value-evaluated}
use Rattle.study_view.proofs.probe.ask_value.Goals as goal

pub returns-clause-asked : goal.returns-clause-asked
returns-clause-asked g c =
    let valid : IsValid c.args.q.now = search rules in
    value-evaluated (within c.args.q.now g.V.Values.source)
    c.args.values.now c.value.new.self c.args.q.now c.value.result valid
    (own-answer g.V.Values.source c.args.values.now c.args.q.now c.value.result c.value.ensures.given (λ k e. ((c.value.ensures.no_table k).0 e).0))
    c.value.ensures.asked c.value.ensures.failed_so
    c.value.ensures.fails_as_before (λ k e. ((c.value.ensures.no_table k).0 e).1) c.value.ensures.no_damage c.value.ensures.failures
    c.value.ensures.stays_honest c.value.ensures.same_tables

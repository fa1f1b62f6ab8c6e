use Rattle.study_moves.specs.LegalList.{legal_list}
use Rattle.study_facts.specs.Continuations.{positions_after}
use Rattle.study_facts.proofs.Within.{each-legal}
use Rattle.study_view.proofs.AllAsked.{evaluated-each, some-evaluated}
use Rattle.study_view.proofs.probe.ask_first_moves.Goals as goal

pub returns-clause-asked : goal.returns-clause-asked
returns-clause-asked g c =
    let asked = positions_after c.args.q.now (legal_list c.args.q.now) in
    some-evaluated g.V.Values.source
    c.args.q.now asked c.args.values.now c.holding_moves.new.values c.holding_moves.result
    (evaluated-each g.V.Values.source
    c.args.q.now asked (each-legal c.args.q.now) c.args.values.now c.holding_moves.new.values c.holding_moves.result c.holding_moves.ensures.evaluated
    c.holding_moves.ensures.first
    c.holding_moves.ensures.no_value c.holding_moves.ensures.no_damage c.holding_moves.ensures.failures c.holding_moves.ensures.honest
    c.holding_moves.ensures.tables)

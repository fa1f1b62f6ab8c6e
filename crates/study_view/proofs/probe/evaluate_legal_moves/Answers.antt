use Rattle.std.proofs.Common.{List, true, subst, []}
use Rattle.std.specs.Prelude.{IfOk}
use Rattle.study_moves.specs.declared.moves.Move.{Move}
use Rattle.study_facts.specs.Continuations.{AreChosen, positions_after, moves_except}
use Rattle.study_view.specs.Asked.{HasEvaluatedEach}
use Rattle.study_facts.proofs.Within.{each-other}
use Rattle.study_view.proofs.AllAsked.{evaluated-each, others-of-none}
use Rattle.study_view.proofs.probe.evaluate_legal_moves.Goals as goal

pub returns-clause-game : goal.returns-clause-game
returns-clause-game g c h =
    let p = c.args.node.now.position.now in
    subst (λ (ms : List Move). IfOk c.missing_moves.result (λ list. AreChosen (λ v. true) p ms list.items)) (others-of-none p)
    (c.missing_moves.ensures.game h)

pub returns-clause-asked : goal.returns-clause-asked
returns-clause-asked g c =
    let p = c.args.node.now.position.now in
    subst
    (λ (ms : List Move). HasEvaluatedEach g.V.Values.source
    p (positions_after p ms) c.args.values.now c.missing_moves.result c.missing_moves.new.values) (others-of-none p)
    (evaluated-each g.V.Values.source
    p (positions_after p (moves_except [] p)) (each-other p []) c.args.values.now c.missing_moves.new.values c.missing_moves.result
    c.missing_moves.ensures.evaluated
    c.missing_moves.ensures.first c.missing_moves.ensures.no_value c.missing_moves.ensures.no_damage c.missing_moves.ensures.failures
    c.missing_moves.ensures.honest c.missing_moves.ensures.tables)

use Rattle.std.proofs.Common.{rules, sym, subst, ◌∙◌}
use Rattle.study_board.specs.Position.{Position}
use Rattle.study_values.specs.Game.{IsValueOf}
use Rattle.study_facts.specs.Asked.{within}
use Rattle.study_facts.proofs.Within.{leads-first, all-wider, asks-wider}
use Rattle.study_facts.proofs.Asking.{all-then, asks-then, same-asks}
use Rattle.study_review.proofs.MovesReported.{answer-more, answer-same}
use Rattle.study_review.proofs.defence_lines.+answers_among.Goals as goal

pub returns-in_err-later-in-Some-clause-asked : goal.returns-in_err-later-in-Some-clause-asked
returns-in_err-later-in-Some-clause-asked g t c =
    asks-then (within c.args.node.now.position.now g.V.Values.source)
    c.args.values.now c.value_of.new.values c.answers_among.new.values c.from_residual-in_err-later-in-Some.result
    (all-wider g.V.Values.source c.args.node.now.position.now c.played-next.result
    (leads-first c.args.node.now.position.now c.played-next.result c.in-Some.m.now c.args.moves.now c.in-Some.rest.now c.in-Some.ensures.cases.0
    c.requires.legal c.played-next.ensures.value) c.args.values.now c.value_of.new.values c.in_ok-value-in-Some.ensures.asked)
    (same-asks (within c.args.node.now.position.now g.V.Values.source)
    c.value_of.new.values c.answers_among.new.values c.from_residual-in_err-later-in-Some.result c.in_err-later-in-Some.field-0.0
    c.from_residual-in_err-later-in-Some.ensures.1
    c.in_err-later-in-Some.ensures.asked)

pub returns-then-holds-clause-game : goal.returns-then-holds-clause-game
returns-then-holds-clause-game g t c h =
    let n = c.args.node.now in
    answer-more n.aim.now n.depth n.position.now c.in-Some.m.now c.args.moves.now c.in-Some.rest.now c.in_ok-value-in-Some.value
    c.in_ok-later-in-Some.later c.with_one_more.result c.in-Some.ensures.cases.0
    (subst (λ (q : Position). IsValueOf q c.in_ok-value-in-Some.value) c.played-next.ensures.value (c.in_ok-value-in-Some.ensures.game h))
    (sym c.holds.ensures ∙ c.if-holds.true) (c.in_ok-later-in-Some.ensures.game (c.in_ok-value-in-Some.ensures.asked.honest h)) c.with_one_more.ensures.count
    c.with_one_more.ensures.only

pub returns-then-holds-clause-asked : goal.returns-then-holds-clause-asked
returns-then-holds-clause-asked g t c =
    all-then (within c.args.node.now.position.now g.V.Values.source)
    c.args.values.now c.value_of.new.values c.answers_among.new.values
    (all-wider g.V.Values.source c.args.node.now.position.now c.played-next.result
    (leads-first c.args.node.now.position.now c.played-next.result c.in-Some.m.now c.args.moves.now c.in-Some.rest.now c.in-Some.ensures.cases.0
    c.requires.legal c.played-next.ensures.value) c.args.values.now c.value_of.new.values c.in_ok-value-in-Some.ensures.asked)
    c.in_ok-later-in-Some.ensures.asked

pub returns-else-holds-clause-game : goal.returns-else-holds-clause-game
returns-else-holds-clause-game g t c h =
    let n = c.args.node.now in
    answer-same n.aim.now n.depth n.position.now c.in-Some.m.now c.args.moves.now c.in-Some.rest.now c.in_ok-value-in-Some.value
    c.in_ok-later-in-Some.later c.in-Some.ensures.cases.0
    (subst (λ (q : Position). IsValueOf q c.in_ok-value-in-Some.value) c.played-next.ensures.value (c.in_ok-value-in-Some.ensures.game h))
    (sym c.holds.ensures ∙ c.if-holds.false) (c.in_ok-later-in-Some.ensures.game (c.in_ok-value-in-Some.ensures.asked.honest h))

pub returns-else-holds-clause-asked : goal.returns-else-holds-clause-asked
returns-else-holds-clause-asked g t c =
    all-then (within c.args.node.now.position.now g.V.Values.source)
    c.args.values.now c.value_of.new.values c.answers_among.new.values
    (all-wider g.V.Values.source c.args.node.now.position.now c.played-next.result
    (leads-first c.args.node.now.position.now c.played-next.result c.in-Some.m.now c.args.moves.now c.in-Some.rest.now c.in-Some.ensures.cases.0
    c.requires.legal c.played-next.ensures.value) c.args.values.now c.value_of.new.values c.in_ok-value-in-Some.ensures.asked)
    c.in_ok-later-in-Some.ensures.asked

pub returns-in_err-value-in-Some-clause-asked : goal.returns-in_err-value-in-Some-clause-asked
returns-in_err-value-in-Some-clause-asked g t c =
    asks-wider g.V.Values.source c.args.node.now.position.now c.played-next.result
    (leads-first c.args.node.now.position.now c.played-next.result c.in-Some.m.now c.args.moves.now c.in-Some.rest.now c.in-Some.ensures.cases.0
    c.requires.legal c.played-next.ensures.value)
    c.args.values.now c.value_of.new.values _ (search rules)

use Rattle.std.proofs.Common.{rules, Option, sym, subst}
use Rattle.study_board.specs.Position.{IsValid}
use Rattle.study_facts.specs.declared.zugzwang.Zugzwang.{Zugzwang}
use Rattle.study_facts.specs.Zugzwang.{IsZugzwangOf}
use Rattle.study_facts.proofs.Within.{evaluated-wider, fault-wider}
use Rattle.study_facts.proofs.ZugzwangReported.{leads-across, kind-by}
use Rattle.study_facts.proofs.zugzwang.kind_beside.Goals as goal

pub returns-in-Ok-clause-game : goal.returns-in-Ok-clause-game
returns-in-Ok-clause-game g c scores h =
    subst (λ (z : Option Zugzwang). IsZugzwangOf c.args.p.now z) (sym c.kind_of.ensures)
    (kind-by c.values_are_unique.ensures c.args.p.now c.args.q.now c.to_move.result c.args.here c.in-Ok.there c.requires.passed c.requires.other c.requires.either
    c.to_move.ensures scores (c.in-Ok.ensures.game h))

pub returns-in-Err-clause-evaluated : goal.returns-in-Err-clause-evaluated
returns-in-Err-clause-evaluated g c =
    let valid : IsValid c.args.q.now = search rules in
    fault-wider g.V.Values.source c.args.p.now c.args.q.now (leads-across c.args.p.now c.args.q.now c.requires.other valid)
    c.args.values.now c.score.new.values c.in-Err.fault c.in-Err.ensures.evaluated

pub returns-in-Ok-clause-evaluated : goal.returns-in-Ok-clause-evaluated
returns-in-Ok-clause-evaluated g c =
    let valid : IsValid c.args.q.now = search rules in
    evaluated-wider g.V.Values.source c.args.p.now c.args.q.now (leads-across c.args.p.now c.args.q.now c.requires.other valid)
    c.args.values.now c.score.new.values c.in-Ok.ensures.evaluated

use Rattle.std.proofs.Common.{rules}
use Rattle.study_facts.proofs.Within.{leads-to, asks-wider, all-wider}
use Rattle.study_review.proofs.probe.push_evaluated.Goals as goal

pub returns-in_err-value-clause-asked : goal.returns-in_err-value-clause-asked
returns-in_err-value-clause-asked g c =
    asks-wider g.V.Values.source
    c.args.p.now c.played-next.result (leads-to c.args.p.now c.played-next.result c.args.m.now c.requires c.played-next.ensures.value)
    c.args.values.now c.value_of.new.values c.from_residual.result (search rules)

pub returns-in_err-push-clause-asked : goal.returns-in_err-push-clause-asked
returns-in_err-push-clause-asked g c =
    asks-wider g.V.Values.source
    c.args.p.now c.played-next.result (leads-to c.args.p.now c.played-next.result c.args.m.now c.requires c.played-next.ensures.value)
    c.args.values.now c.value_of.new.values c.from_residual-in_err-push.result (search rules)

pub returns-clause-asked : goal.returns-clause-asked
returns-clause-asked g c =
    all-wider g.V.Values.source
    c.args.p.now c.played-next.result (leads-to c.args.p.now c.played-next.result c.args.m.now c.requires c.played-next.ensures.value)
    c.args.values.now c.value_of.new.values c.in_ok-value.ensures.asked

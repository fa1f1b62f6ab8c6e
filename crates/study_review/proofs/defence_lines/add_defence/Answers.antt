use Rattle.std.proofs.Common.{rules}
use Rattle.study_facts.proofs.Within.{leads-to, asks-wider, all-wider}
use Rattle.study_review.proofs.defence_lines.add_defence.Goals as goal

pub returns-in_err-answers-clause-asked : goal.returns-in_err-answers-clause-asked
returns-in_err-answers-clause-asked g c =
    asks-wider g.V.Values.source
    c.args.node.now.position.now c.played-next.result (leads-to c.args.node.now.position.now c.played-next.result c.args.x.now.played c.requires.legal
    c.played-next.ensures.value)
    c.args.values.now c.answers_among.new.values _ (search rules)

pub returns-in_err-add_missing_line-clause-asked : goal.returns-in_err-add_missing_line-clause-asked
returns-in_err-add_missing_line-clause-asked g c =
    asks-wider g.V.Values.source
    c.args.node.now.position.now c.played-next.result (leads-to c.args.node.now.position.now c.played-next.result c.args.x.now.played c.requires.legal
    c.played-next.ensures.value)
    c.args.values.now c.answers_among.new.values _ (search rules)

pub returns-clause-asked : goal.returns-clause-asked
returns-clause-asked g c =
    all-wider g.V.Values.source
    c.args.node.now.position.now c.played-next.result (leads-to c.args.node.now.position.now c.played-next.result c.args.x.now.played c.requires.legal
    c.played-next.ensures.value)
    c.args.values.now c.answers_among.new.values c.in_ok-answers.ensures.asked

use Rattle.study_facts.specs.Asked.{within}
use Rattle.study_facts.proofs.Asking.{none-asked, no-memory, asks-then}
use Rattle.study_review.proofs.node_lines.add_reported.Goals as goal

pub returns-in_err-add_refuted-clause-asked : goal.returns-in_err-add_refuted-clause-asked
returns-in_err-add_refuted-clause-asked g c =
    no-memory (within c.args.here.now.node.position.now g.V.Values.source)
    c.args.values.now c.args.values.now c.from_residual.result c.from_residual.ensures.1
    (none-asked (within c.args.here.now.node.position.now g.V.Values.source) c.args.values.now)

pub returns-clause-asked : goal.returns-clause-asked
returns-clause-asked g c =
    asks-then (within c.args.here.now.node.position.now g.V.Values.source)
    c.args.values.now c.add_missing.new.values c.add_end.new.values c.add_end.result c.in_ok-add_missing.ensures.asked c.add_end.ensures.asked

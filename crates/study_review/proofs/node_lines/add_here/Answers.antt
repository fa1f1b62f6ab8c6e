use Rattle.std.proofs.lemmas.Result.{on_ok_weaker}
use Rattle.study_marks.specs.BenchState.{marked_study}
use Rattle.study_facts.specs.Asked.{within}
use Rattle.study_facts.proofs.Asking.{asks-then}
use Rattle.study_review.proofs.NodesReported.{here-evaluated}
use Rattle.study_review.proofs.node_lines.add_here.Goals as goal

pub returns-clause-text : goal.returns-clause-text
returns-clause-text g c h =
    on_ok_weaker c.add_zugzwang.result
    (here-evaluated (marked_study c.args.bench.now) c.args.here.now.steps.now c.args.here.now.node.position.now c.args.text.now c.add_node_lines.new.text
    c.add_zugzwang.new.text
    c.requires.here.node.position (c.in_ok-add_node_lines.ensures.text h)) (c.add_zugzwang.ensures.text (c.in_ok-add_node_lines.ensures.asked.honest h))

pub returns-clause-asked : goal.returns-clause-asked
returns-clause-asked g c =
    asks-then (within c.args.here.now.node.position.now g.V.Values.source)
    c.args.values.now c.add_node_lines.new.values c.add_zugzwang.new.values c.add_zugzwang.result c.in_ok-add_node_lines.ensures.asked
    c.add_zugzwang.ensures.asked

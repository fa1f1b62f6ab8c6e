use Rattle.std.proofs.Common.{length, sym, ap, arith, ◌∙◌}
use Rattle.study_marks.specs.BenchState.{marked_study}
use Rattle.study_facts.specs.Asked.{within}
use Rattle.study_facts.proofs.Asking.{asks-then}
use Rattle.study_facts.proofs.NodesShown.{not-zero}
use Rattle.study_review.proofs.NodesReported.{own-none}
use Rattle.study_review.proofs.node_lines.add_node_lines.Goals as goal

pub returns-then-not-is_defended-clause-text : goal.returns-then-not-is_defended-clause-text
returns-then-not-is_defended-clause-text g c h =
    let s = marked_study c.args.bench.now in
    own-none s c.args.here.now.steps.now c.args.here.now.children c.args.text.now c.requires.here.children
    (not-zero c.args.here.now.children c.if-here-ne0.true) (sym c.requires.here.tried ∙ c.if-not-here.true)
    (sym (c.is_defended.ensures s c.requires.here) ∙ c.if-not-is_defended.true)

pub add_reported-requires-clause-few : goal.add_reported-requires-clause-few
add_reported-requires-clause-few g c = omega (arith, c.in_ok-evaluate_legal_moves.ensures.few, ap length c.as_slice.ensures.value)

pub returns-clause-asked : goal.returns-clause-asked
returns-clause-asked g c =
    asks-then (within c.args.here.now.node.position.now g.V.Values.source)
    c.args.values.now c.evaluate_legal_moves.new.values c.add_reported.new.values c.add_reported.result c.in_ok-evaluate_legal_moves.ensures.asked
    c.add_reported.ensures.asked

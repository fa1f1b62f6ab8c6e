use Rattle.std.proofs.Common.{◌≡◌, None, sym, ◌∙◌}
use Rattle.std.proofs.lemmas.Result.{on_ok_weaker}
use Rattle.study_tree.specs.Tree.{spot_at}
use Rattle.study_marks.specs.BenchState.{marked_study}
use Rattle.study_marks.specs.FaultSums.{below_at}
use Rattle.study_marks.proofs.PathRenewed.{no-spot}
use Rattle.study_facts.specs.Line.{moves_of}
use Rattle.study_facts.specs.Nodes.{is_defended}
use Rattle.study_facts.proofs.NodesShown.{not-there}
use Rattle.study_review.proofs.NodesReported.{missing-evaluated}
use Rattle.study_review.proofs.node_lines.add_missing.Goals as goal

pub returns-then-not-is_defended-clause-text : goal.returns-then-not-is_defended-clause-text
returns-then-not-is_defended-clause-text g c all h =
    let s = marked_study c.args.bench.now in
    not-there (is_defended s c.args.here.now.steps.now) _ c.args.text.now (sym (c.is_defended.ensures s c.requires.here) ∙ c.if-not-is_defended.true)

pub returns-in-None-clause-text : goal.returns-in-None-clause-text
returns-in-None-clause-text g c all h =
    let tree = (marked_study c.args.bench.now).tree in
    let gone : spot_at tree c.args.here.now.steps.now ≡ None = rw c.in-None.is at c.in_ok-children_in.ensures in
    absurd (no-spot tree c.args.here.now.steps.now c.requires.here.there gone)

pub returns-in-Some-clause-text : goal.returns-in-Some-clause-text
returns-in-Some-clause-text g c all h =
    let there : c.in-Some.there.items ≡ moves_of (below_at (marked_study c.args.bench.now).tree.below c.args.here.now.steps.now) = rw c.in-Some.is
    at c.in_ok-children_in.ensures in
    on_ok_weaker c.add_defences.result
    (missing-evaluated (marked_study c.args.bench.now) c.args.here.now.steps.now c.args.here.now.node.aim.now c.args.here.now.node.depth
    c.args.here.now.node.position.now c.requires.here.node
    c.as_slice.result.now c.args.evaluated.now c.args.text.now c.add_defences.new.text
    (sym (c.is_defended.ensures (marked_study c.args.bench.now) c.requires.here) ∙ c.if-not-is_defended.false)
    (c.as_slice.ensures.value ∙ there) all)
    (c.add_defences.ensures.text h)

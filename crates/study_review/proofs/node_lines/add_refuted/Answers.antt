use Rattle.std.proofs.Common.{sym, ◌∙◌}
use Rattle.std.proofs.lemmas.Result.{on_ok_weaker}
use Rattle.study_marks.specs.BenchState.{marked_study}
use Rattle.study_review.proofs.NodesReported.{refuted-evaluated}
use Rattle.study_review.proofs.node_lines.add_refuted.Goals as goal

pub returns : goal.returns
returns g c all =
    on_ok_weaker c.add_refutations.result
    (refuted-evaluated (marked_study c.args.bench.now) c.args.here.now.steps.now c.args.here.now.node.aim.now c.args.here.now.node.depth
    c.args.here.now.node.position.now c.requires.here.node
    c.args.evaluated.now c.args.text.now c.add_refutations.new.text (sym c.requires.here.tried ∙ c.if-not-here.false) all)
    c.add_refutations.ensures

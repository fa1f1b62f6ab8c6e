use Rattle.std.proofs.Common.{sym, ◌∙◌}
use Rattle.std.proofs.lemmas.Result.{on_ok_weaker}
use Rattle.study_marks.specs.BenchState.{marked_study}
use Rattle.study_facts.specs.Nodes.{is_open_end}
use Rattle.study_facts.proofs.NodesShown.{not-there}
use Rattle.study_review.proofs.NodesReported.{end-evaluated}
use Rattle.study_review.proofs.node_lines.add_end.Goals as goal

pub returns-then-not-is_open_end-clause-text : goal.returns-then-not-is_open_end-clause-text
returns-then-not-is_open_end-clause-text g c all h =
    let s = marked_study c.args.bench.now in
    not-there (is_open_end s c.args.here.now.steps.now) _ c.args.text.now (sym (c.is_open_end.ensures s c.requires.here) ∙ c.if-not-is_open_end.true)

pub returns-clause-text : goal.returns-clause-text
returns-clause-text g c all h =
    let s = marked_study c.args.bench.now in
    let node = c.args.here.now.node in
    on_ok_weaker c.add_best_play_or_draws.result
    (end-evaluated s c.args.here.now.steps.now node.aim.now node.depth node.position.now c.requires.here.node
    c.args.here.now.value c.args.text.now c.add_best_play_or_draws.new.text
    (sym (c.is_open_end.ensures s c.requires.here) ∙ c.if-not-is_open_end.false) c.requires.here.value)
    (c.add_best_play_or_draws.ensures.text all h)

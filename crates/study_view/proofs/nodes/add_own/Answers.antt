use Rattle.std.proofs.lemmas.Result.{on_ok_weaker}
use Rattle.study_marks.specs.BenchState.{marked_study}
use Rattle.study_facts.proofs.Within.{leads-at}
use Rattle.study_view.proofs.AllAsked.{walks-wider}
use Rattle.study_view.proofs.NodeLines.{zugzwang-grew}
use Rattle.study_view.proofs.StartsAt.{position-of}
use Rattle.study_view.proofs.nodes.add_own.Goals as goal

pub returns-clause-zugzwangs : goal.returns-clause-zugzwangs
returns-clause-zugzwangs g c h =
    let s = marked_study c.args.bench.now in
    on_ok_weaker c.add_zugzwang.result
    (zugzwang-grew s c.args.steps.now c.args.here.now.position c.args.lines.now.zugzwangs c.add_zugzwang.new.text
    (position-of s c.args.steps.now c.args.here.now c.requires.here)) (c.add_zugzwang.ensures.text h)

pub returns-clause-asked : goal.returns-clause-asked
returns-clause-asked g c =
    let s = marked_study c.args.bench.now in
    walks-wider g.V.Values.source s.start.position c.args.here.now.position
    (leads-at s c.args.steps.now c.args.here.now.position c.start-first.ensures.study.playable (position-of s c.args.steps.now c.args.here.now c.requires.here))
    c.args.values.now c.add_zugzwang.new.values c.add_zugzwang.result c.add_zugzwang.ensures.asked

use Rattle.std.proofs.Common.{sym, ◌∙◌}
use Rattle.study_marks.specs.BenchState.{marked_study}
use Rattle.study_marks.proofs.MovesToNode.{some-move, start-legal-last, start-last, no-start-steps}
use Rattle.study_view.proofs.StartsAt.{before-front}
use Rattle.study_view.proofs.nodes.start_from.Goals as goal

pub unreachable-requires : goal.unreachable-requires
unreachable-requires g c = some-move (marked_study c.args.bench.now).tree c.args.steps.now c.in-Some.front.now _
    c.in-Some.ensures.cases.0 c.requires.found (sym c.move_to.ensures ∙ c.in-None-move_to.is)

pub played-requires : goal.played-requires
played-requires g c =
    let s = marked_study c.args.bench.now in
    start-legal-last s.start c.args.before.now s.tree c.args.steps.now c.in-Some.front.now _ c.in-Some-move_to.m c.in-Some.ensures.cases.0
    (sym c.move_to.ensures ∙ c.in-Some-move_to.is) c.start-first.ensures.study.playable
    (before-front s c.args.steps.now c.in-Some.front.now _ c.args.before.now c.in-Some.ensures.cases.0 c.requires.before)

pub returns-in-Some-move_to : goal.returns-in-Some-move_to
returns-in-Some-move_to g c =
    let s = marked_study c.args.bench.now in
    c.played.ensures.value
    ∙ start-last s.start c.args.before.now s.tree c.args.steps.now c.in-Some.front.now _ c.in-Some-move_to.m c.in-Some.ensures.cases.0
    (sym c.move_to.ensures ∙ c.in-Some-move_to.is) c.start-first.ensures.study.playable
    (before-front s c.args.steps.now c.in-Some.front.now _ c.args.before.now c.in-Some.ensures.cases.0 c.requires.before)

pub returns-in-None : goal.returns-in-None
returns-in-None g c =
    let s = marked_study c.args.bench.now in
    c.copied.ensures ∙ c.start-first.ensures.value ∙ no-start-steps s.start s.tree c.args.steps.now c.in-None.ensures.cases

use Rattle.std.proofs.Common.{sym, ◌∙◌, arith}
use Rattle.study_tree.specs.Tree.{plain_tree}
use Rattle.study_marks.proofs.MovesToNode.{some-move, front-found, legal-last, position-last}
use Rattle.study_marks.proofs.replay.+position_at.Goals as goal

pub position_at-before-requires : goal.position_at-before-requires
position_at-before-requires g t c κs within = (
  omega (arith, c.in-Some.ensures.cases.1, c.decreases),
  (within, (front-found (plain_tree c.args.tree.now) c.args.steps.now c.in-Some.front.now _ c.in-Some.ensures.cases.0 c.requires.found, c.requires.playable)),
)

pub unreachable-requires : goal.unreachable-requires
unreachable-requires g t c = some-move (plain_tree c.args.tree.now) c.args.steps.now c.in-Some.front.now _
    c.in-Some.ensures.cases.0 c.requires.found (sym c.move_to.ensures ∙ c.in-None-move_to.is)

pub played-requires : goal.played-requires
played-requires g t c =
    legal-last c.args.first.now c.position_at-before.result (plain_tree c.args.tree.now) c.args.steps.now
    c.in-Some.front.now _ c.in-Some-move_to.m c.in-Some.ensures.cases.0
    (sym c.move_to.ensures ∙ c.in-Some-move_to.is) c.requires.playable c.position_at-before.ensures

pub returns-in-Some-move_to : goal.returns-in-Some-move_to
returns-in-Some-move_to g t c =
    c.played.ensures.value ∙ position-last c.args.first.now c.position_at-before.result (plain_tree c.args.tree.now)
    c.args.steps.now c.in-Some.front.now _ c.in-Some-move_to.m c.in-Some.ensures.cases.0
    (sym c.move_to.ensures ∙ c.in-Some-move_to.is) c.requires.playable c.position_at-before.ensures

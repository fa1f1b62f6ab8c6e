use Rattle.std.proofs.Common.{ap, ◌∙◌, arith}
use Rattle.study_tails.specs.Study.{node_from}
use Rattle.study_tails.proofs.Nodes.{node_none, playable_child, playable_after, stepped}
use Rattle.study_tails.proofs.study.+descend.Goals as goal

pub played-requires : goal.played-requires
played-requires g t c =
    (playable_child c.args.from.start.position c.args.from.tree.below c.in-Some.first.now _ c.in-Some-child.ensures c.requires).0

pub descend-requires : goal.descend-requires
descend-requires g t c κs within = (
  omega (arith, c.in-Some.ensures.cases.1, c.decreases),
  (
    within,
    playable_after c.args.from.start _ c.played.result c.in-Some-child.child.node.below c.played.ensures.value
        (playable_child c.args.from.start.position c.args.from.tree.below c.in-Some.first.now _ c.in-Some-child.ensures c.requires).1,
  ),
)

pub returns-in-None-child-clause-found : goal.returns-in-None-child-clause-found
returns-in-None-child-clause-found g t c =
    ap (node_from c.args.from.start c.args.from.tree.below) c.in-Some.ensures.cases.0
    ∙ node_none c.args.from.start c.args.from.tree.below c.in-Some.first.now c.in-Some.rest.now c.in-None-child.ensures

pub returns-in-Some-child-clause-found : goal.returns-in-Some-child-clause-found
returns-in-Some-child-clause-found g t c =
    rw (stepped c.args.from.start c.args.from.tree.below c.args.steps.now c.in-Some.first.now c.in-Some.rest.now _ c.played.result c.in-Some.ensures.cases.0
    c.in-Some-child.ensures c.played.ensures.value)
    c.descend.ensures.found

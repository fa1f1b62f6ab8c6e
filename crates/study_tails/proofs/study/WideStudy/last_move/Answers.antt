use Rattle.std.proofs.Common.{sym, ap, ◌∙◌}
use Rattle.study_tails.specs.Blocks.{last_from}
use Rattle.study_tails.proofs.Nodes.{playable_child}
use Rattle.study_tails.proofs.BlocksWritten.{last_nowhere, last_at, moved_from}
use Rattle.study_tails.proofs.study.WideStudy.last_move.Goals as goal

pub returns-in-None-node-clause-value : goal.returns-in-None-node-clause-value
returns-in-None-node-clause-value g c =
    let s = c.args.self.now in
    sym (ap (last_from s.start s.tree.below) c.in-Some.ensures.cases.0 ∙ last_nowhere s.start s.tree.below c.in-Some.front.now _ c.in-None-node.ensures.found)

pub returns-in-None-child-clause-value : goal.returns-in-None-child-clause-value
returns-in-None-child-clause-value g c =
    let s = c.args.self.now in
    sym (ap (last_from s.start s.tree.below) c.in-Some.ensures.cases.0
    ∙ last_at s.start s.tree.below c.in-Some.front.now _ _ c.in-Some-node.ensures.found
    ∙ ap (moved_from c.in-Some-node.node.start) c.in-None-child.ensures)

pub returns-in-Some-child-clause-value : goal.returns-in-Some-child-clause-value
returns-in-Some-child-clause-value g c =
    let s = c.args.self.now in
    sym (ap (last_from s.start s.tree.below) c.in-Some.ensures.cases.0
    ∙ last_at s.start s.tree.below c.in-Some.front.now _ _ c.in-Some-node.ensures.found
    ∙ ap (moved_from c.in-Some-node.node.start) c.in-Some-child.ensures)

pub returns-in-Some-child-clause-legal : goal.returns-in-Some-child-clause-legal
returns-in-Some-child-clause-legal g c =
    (playable_child c.in-Some-node.node.start.position c.in-Some-node.node.tree.below _ _ c.in-Some-child.ensures c.in-Some-node.ensures.playable).0

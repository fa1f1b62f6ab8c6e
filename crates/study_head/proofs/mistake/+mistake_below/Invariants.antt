use Rattle.study_tree.specs.Forest.{nodes_in}
use Rattle.study_head.proofs.FirstMistake.{NoneYet}
use Rattle.study_head.proofs.mistake.+mistake_below.Given as goal

-- fewer nodes are below a child
abbrev pub decreases-mistake_below : goal.decreases-mistake_below
decreases-mistake_below g l = nodes_in l.node.now.below

-- no mistake is found so far
abbrev pub invariant-loop-place : goal.invariant-loop-place
invariant-loop-place g l = NoneYet l.here.aim.now l.here.start.now l.here.depth l.here.position.now l.node.below l.place

use Rattle.std.proofs.Common.{◌+◌, length, ◌-◌}
use Rattle.study_tree.specs.Forest.{forest_of, nodes_in}
use Rattle.study_tree.specs.Edits.{without_spares}
use Rattle.study_tree.specs.Changes.{rewritten}
use Rattle.study_tree.proofs.LabelChanges.{IsLeft}
use Rattle.study_tree.proofs.changes.+rewrite_below.Given as goal

-- the nodes below are fewer
abbrev pub decreases-rewrite_below : goal.decreases-rewrite_below
decreases-rewrite_below g l = nodes_in (forest_of l.children.now.items)

-- the rest to be written completes the whole
abbrev pub invariant-loop-place : goal.invariant-loop-place
invariant-loop-place g l =
    IsLeft (g.W.Rewriting.pass l.by) l.depth
    (rewritten (g.W.Rewriting.pass l.by) l.depth 0 l.number l.fn.parent (without_spares (forest_of l.fn.children.items)))
    l.number (l.number + nodes_in (forest_of l.fn.children.items)) l.children.items l.place l.next l.parent

abbrev pub decreases-loop-place : goal.decreases-loop-place
decreases-loop-place g l = length l.children.items - l.place

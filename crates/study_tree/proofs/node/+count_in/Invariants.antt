use Rattle.std.proofs.Common.{◌≡◌, ◌+◌, drop}
use Rattle.study_tree.specs.Forest.{forest_of, nodes_in}
use Rattle.study_tree.proofs.node.+count_in.Given as goal

-- the count so far, and the remaining nodes, are all
abbrev pub invariant-loop-node : goal.invariant-loop-node
invariant-loop-node g l = l.count + nodes_in (forest_of (drop l.node-index l.nodes)) ≡ nodes_in (forest_of l.nodes)

-- the nodes below are fewer
abbrev pub decreases-count_in : goal.decreases-count_in
decreases-count_in g l = nodes_in (forest_of l.nodes.now)

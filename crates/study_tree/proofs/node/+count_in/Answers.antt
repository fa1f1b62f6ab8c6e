use Rattle.std.proofs.Common.{arith, ◌≤◌, ◌+◌, ap}
use Rattle.study_tree.specs.Forest.{forest_of, nodes_in, nodes_from}
use Rattle.study_tree.proofs.PathSteps.{nodes_from-le}
use Rattle.study_tree.proofs.node.+count_in.Goals as goal

pub count_in-requires : goal.count_in-requires
count_in-requires g t c κs within =
    let small : nodes_in (forest_of c.deref.result.now) + 1 ≤ nodes_in (forest_of c.args.nodes.now) =
    omega (
      arith,
      ap (λ xs. nodes_in (forest_of xs)) c.deref.ensures.value,
      ap (λ x. nodes_in x.below) c.node.view_is,
      ap nodes_from c.node-item.is,
      nodes_from-le c.args.nodes.now c.loop-node.node-index c.node-item.result c.loop-node-test.true,
    ) in
    (omega (arith, small, c.decreases), (within.0, (within.1, omega (arith, small, c.requires))))

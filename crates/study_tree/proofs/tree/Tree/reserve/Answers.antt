use Rattle.std.proofs.Common.{ap}
use Rattle.study_tree.specs.Forest.{forest_of}
use Rattle.study_tree.specs.Tree.{plain_tree}
use Rattle.study_tree.proofs.ShownTrees.{room_for_child, size-same}
use Rattle.study_tree.proofs.TreeDepth.{within-same}
use Rattle.study_tree.proofs.tree.Tree.reserve.Goals as goal

pub reserve_below-requires : goal.reserve_below-requires
reserve_below-requires g c =
    let room = room_for_child (forest_of c.self.inside.children.items) (plain_tree c.args.self.now) c.args.steps.now
    c.self.inside.size (ap (λ t. (plain_tree t).below) c.self.view_is) c.self.invariant.0
    c.in_ok-check_child.ensures.ok in
    record { found = room.0 }

pub invariant_of-self : goal.invariant_of-self
invariant_of-self g c = (
  size-same (forest_of c.self.inside.children.items) (forest_of c.reserve_below.new.children.items)
      c.self.inside.size c.reserve_below.ensures.same c.self.invariant.0,
  c.self.invariant.1,
  within-same 256 (forest_of c.self.inside.children.items) (forest_of c.reserve_below.new.children.items) c.reserve_below.ensures.same c.self.invariant.2,
)

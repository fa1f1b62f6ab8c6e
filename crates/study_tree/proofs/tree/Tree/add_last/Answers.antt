use Rattle.std.proofs.Common.{sym, ◌∙◌, ap, arith}
use Rattle.study_tree.specs.Forest.{forest_of}
use Rattle.study_tree.specs.Edits.{children_at}
use Rattle.study_tree.specs.Tree.{plain_tree}
use Rattle.study_tree.proofs.ShownTrees.{room_for_child, size-added, size-same, children_at-plain, children_at-le}
use Rattle.study_tree.proofs.TreeDepth.{within-same, within-added}
use Rattle.study_tree.proofs.tree.Tree.add_last.Goals as goal

pub add_below-requires-clause-found : goal.add_below-requires-clause-found
add_below-requires-clause-found g c =
    let room = room_for_child (forest_of c.self.inside.children.items) (plain_tree c.args.self.now) c.args.steps.now
    c.self.inside.size (ap (λ t. (plain_tree t).below) c.self.view_is) c.self.invariant.0
    c.in_ok-check_child.ensures.ok in
    room.0

pub add_below-requires-clause-few : goal.add_below-requires-clause-few
add_below-requires-clause-few g c =
    omega (arith, children_at-le (forest_of c.self.inside.children.items) c.args.steps.now, c.self.invariant.0, c.self.invariant.1)

pub invariant_of-self : goal.invariant_of-self
invariant_of-self g c = (
  size-same (forest_of c.self.inside.children.items) (forest_of c.add_below.new.children.items) c.self.inside.size
      c.in-Err.ensures.err c.self.invariant.0,
  c.self.invariant.1,
  within-same 256 (forest_of c.self.inside.children.items) (forest_of c.add_below.new.children.items) c.in-Err.ensures.err c.self.invariant.2,
)

pub invariant_of-self-2 : goal.invariant_of-self-2
invariant_of-self-2 g c =
    let room = room_for_child (forest_of c.self.inside.children.items) (plain_tree c.args.self.now) c.args.steps.now
    c.self.inside.size (ap (λ t. (plain_tree t).below) c.self.view_is) c.self.invariant.0
    c.in_ok-check_child.ensures.ok in (
      size-added (forest_of c.self.inside.children.items) (forest_of c.add_below.new.children.items)
          c.args.steps.now c.args.played c.args.label c.self.inside.size room.0 c.in-Ok.ensures.added
          c.self.invariant.0,
      omega (arith, room.1),
      within-added 256 (forest_of c.self.inside.children.items) (forest_of c.add_below.new.children.items)
          c.args.steps.now c.args.played c.args.label c.in-Ok.ensures.added room.2 c.self.invariant.2,
    )

pub returns-clause-place : goal.returns-clause-place
returns-clause-place g c =
    c.in-Ok.ensures.place ∙ sym (children_at-plain (forest_of c.self.inside.children.items) c.args.steps.now)
    ∙ ap (λ t. children_at (plain_tree t).below c.args.steps.now) c.self.view_is

use Rattle.std.proofs.Common.{◌∷◌, sym, ap, arith}
use Rattle.study_tree.specs.Forest.{forest_of, nodes_from}
use Rattle.study_tree.specs.Tree.{plain_tree}
use Rattle.study_tree.proofs.ShownTrees.{found_in, counted-below}
use Rattle.study_tree.proofs.TreeDepth.{within-dropped}
use Rattle.study_tree.proofs.tree.Tree.remove.Goals as goal

pub remove_below-removed-requires : goal.remove_below-removed-requires
remove_below-removed-requires g c =
    let shown = ap (λ t. (plain_tree t).below) c.self.view_is in
    record {
      found = found_in (forest_of c.self.inside.children.items) (plain_tree c.args.self.now).below
          c.args.steps.now (c.in-Some.first.now ∷ c.in-Some.rest.now) shown c.in-Some.ensures.cases.0
          (sym c.if-not-has.ensures);
    }

pub count_in-requires : goal.count_in-requires
count_in-requires g c =
    let small =
    counted-below (forest_of c.self.inside.children.items) (forest_of c.remove_below-removed.new.children.items)
    c.remove_below-removed.result c.removed.inside.children.items c.deref.result.now c.deref.ensures.value
    (ap nodes_from c.removed.view_is) c.remove_below-removed.ensures.counted in
    omega (arith, small, c.self.invariant.0, c.self.invariant.1)

pub overflow_add-self : goal.overflow_add-self
overflow_add-self g c =
    let small =
    counted-below (forest_of c.self.inside.children.items) (forest_of c.remove_below-removed.new.children.items)
    c.remove_below-removed.result c.removed.inside.children.items c.deref.result.now c.deref.ensures.value
    (ap nodes_from c.removed.view_is) c.remove_below-removed.ensures.counted in
    omega (arith, small, c.count_in.ensures, c.self.invariant.0, c.self.invariant.1)

pub overflow_sub-self : goal.overflow_sub-self
overflow_sub-self g c =
    let small =
    counted-below (forest_of c.self.inside.children.items) (forest_of c.remove_below-removed.new.children.items)
    c.remove_below-removed.result c.removed.inside.children.items c.deref.result.now c.deref.ensures.value
    (ap nodes_from c.removed.view_is) c.remove_below-removed.ensures.counted in
    omega (arith, small, c.count_in.ensures, c.self.invariant.0, c.self.invariant.1)

pub invariant_of-self : goal.invariant_of-self
invariant_of-self g c =
    let small =
    counted-below (forest_of c.self.inside.children.items) (forest_of c.remove_below-removed.new.children.items)
    c.remove_below-removed.result c.removed.inside.children.items c.deref.result.now c.deref.ensures.value
    (ap nodes_from c.removed.view_is) c.remove_below-removed.ensures.counted in (
      omega (arith, small, c.count_in.ensures, c.self.invariant.0, c.self.invariant.1),
      omega (arith, small, c.count_in.ensures, c.self.invariant.0, c.self.invariant.1),
      within-dropped 256 (forest_of c.self.inside.children.items)
          (forest_of c.remove_below-removed.new.children.items) c.in-Some.first.now c.in-Some.rest.now
          c.remove_below-removed.ensures.removed c.self.invariant.2,
    )

use Rattle.std.proofs.Common.{◌∷◌, sym, ap}
use Rattle.study_tree.specs.Forest.{forest_of}
use Rattle.study_tree.specs.Tree.{plain_tree}
use Rattle.study_tree.proofs.ShownTrees.{found_in}
use Rattle.study_tree.proofs.LabelChanges.{size-changed, within-changed}
use Rattle.study_tree.proofs.tree.Tree.change_along.Goals as goal
use Rattle.study_tree.proofs.tree.Tree.change_along.Goals.{in-Some, in_default}

pub update_below-requires-clause-found : goal.update_below-requires-clause-found
update_below-requires-clause-found g c =
    let shown = ap (λ t. (plain_tree t).below) c.self.view_is in
    found_in (forest_of c.self.inside.children.items) (plain_tree c.args.self.now).below
    c.args.steps.now (c.in-Some.first.now ∷ c.in-Some.rest.now) shown c.in-Some.ensures.cases.0
    (sym c.if-not-has.ensures)

pub invariant_of-self : goal.invariant_of-self
invariant_of-self g c =
    elim c.match-split_first.branch [
      | in-Some w ↦ rw w.self-inside-is (
        size-changed (forest_of c.self.inside.children.items) (forest_of w.update_below.new.children.items)
            (g.C.LabelChange.changed c.args.change.now) 1 (w.in-Some.first.now ∷ w.in-Some.rest.now) c.self.inside.size
            w.update_below.ensures c.self.invariant.0,
        c.self.invariant.1,
        within-changed 256 (forest_of c.self.inside.children.items) (forest_of w.update_below.new.children.items)
            (g.C.LabelChange.changed c.args.change.now) 1 (w.in-Some.first.now ∷ w.in-Some.rest.now)
            w.update_below.ensures c.self.invariant.2,
      )
      | in_default w ↦ rw w.self-inside-is c.self.invariant
    ]

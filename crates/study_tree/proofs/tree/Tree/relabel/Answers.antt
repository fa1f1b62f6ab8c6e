use Rattle.std.proofs.Common.{◌∷◌, sym, ap}
use Rattle.study_tree.specs.Forest.{forest_of}
use Rattle.study_tree.specs.Tree.{plain_tree}
use Rattle.study_tree.proofs.ShownTrees.{found_in, size-labelled}
use Rattle.study_tree.proofs.TreeDepth.{within-labelled}
use Rattle.study_tree.proofs.tree.Tree.relabel.Goals as goal
use Rattle.study_tree.proofs.tree.Tree.relabel.Goals.{in-None, in-Some}

pub relabel_below-requires : goal.relabel_below-requires
relabel_below-requires g c =
    let shown = ap (λ t. (plain_tree t).below) c.self.view_is in
    record {
      found = found_in (forest_of c.self.inside.children.items) (plain_tree c.args.self.now).below
          c.args.steps.now (c.in-Some.first.now ∷ c.in-Some.rest.now) shown c.in-Some.ensures.cases.0
          (sym c.if-not-has.ensures);
    }

pub invariant_of-self : goal.invariant_of-self
invariant_of-self g c =
    elim c.match-split_first.branch [
      | in-None w ↦ rw w.self-inside-is c.self.invariant
      | in-Some w ↦ rw w.self-inside-is (
        size-labelled (forest_of c.self.inside.children.items) (forest_of w.relabel_below.new.children.items)
            w.in-Some.first.now w.in-Some.rest.now c.args.label c.self.inside.size w.relabel_below.ensures
            c.self.invariant.0,
        c.self.invariant.1,
        within-labelled 256 (forest_of c.self.inside.children.items) (forest_of w.relabel_below.new.children.items)
            w.in-Some.first.now w.in-Some.rest.now c.args.label w.relabel_below.ensures c.self.invariant.2,
      )
    ]

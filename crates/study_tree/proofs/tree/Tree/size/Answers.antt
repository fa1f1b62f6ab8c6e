use Rattle.std.proofs.Common.{arith, ap, subst}
use Rattle.study_tree.specs.Forest.{forest_of}
use Rattle.study_tree.specs.Edits.{IsWithin}
use Rattle.study_tree.specs.Tree.{plain_tree, size_of}
use Rattle.study_tree.proofs.ShownTrees.{nodes_in-plain}
use Rattle.study_tree.proofs.tree.Tree.size.Goals as goal

pub returns-clause-size : goal.returns-clause-size
returns-clause-size g c =
    omega (arith, ap (λ t. size_of (plain_tree t)) c.self.view_is, nodes_in-plain (forest_of c.self.inside.children.items), c.self.invariant.0)

pub returns-clause-few : goal.returns-clause-few
returns-clause-few g c =
    omega (
      arith,
      ap (λ t. size_of (plain_tree t)) c.self.view_is,
      nodes_in-plain (forest_of c.self.inside.children.items),
      c.self.invariant.0,
      c.self.invariant.1,
    )

pub returns-clause-shallow : goal.returns-clause-shallow
returns-clause-shallow g c =
    subst (IsWithin 256) (ap (λ t. (plain_tree t).below) c.self.view_is) c.self.invariant.2

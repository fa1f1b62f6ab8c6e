use Rattle.std.proofs.Common.{ap, sym, ◌∙◌, arith}
use Rattle.study_tree.specs.Forest.{forest_of}
use Rattle.study_tree.specs.Edits.{width}
use Rattle.study_tree.proofs.PathSteps.{width-forest_of}
use Rattle.study_tree.proofs.PathEnds.{length-le}
use Rattle.study_tree.proofs.ShownTrees.{width-plain}
use Rattle.study_tree.proofs.branch.Subtree.width.Goals as goal

pub overflow_cast-result : goal.overflow_cast-result
overflow_cast-result g c = omega (arith, length-le c.self.inside.children.now, c.self.invariant)

pub returns : goal.returns
returns g c =
    sym (width-forest_of c.self.inside.children.now) ∙ sym (width-plain (forest_of c.self.inside.children.now))
    ∙ ap (λ t. width t.below) c.self.view_is

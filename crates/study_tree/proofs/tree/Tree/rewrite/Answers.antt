use Rattle.std.proofs.Common.{ap, ◌∙◌}
use Rattle.study_tree.specs.Forest.{forest_of}
use Rattle.study_tree.specs.Tree.{plain_tree, size_of}
use Rattle.study_tree.specs.Changes.{counted_by}
use Rattle.study_tree.proofs.ShownTrees.{size_of-shown}
use Rattle.study_tree.proofs.LabelChanges.{size-rewritten, within-rewritten}
use Rattle.study_tree.proofs.tree.Tree.rewrite.Goals as goal

pub invariant_of-self : goal.invariant_of-self
invariant_of-self g c = (
  size-rewritten (forest_of c.self.inside.children.items) (forest_of c.rewrite_below.new.children.items)
      (g.W.Rewriting.pass c.args.by.now) 0 0 1 c.begin.new.label c.self.inside.size c.rewrite_below.ensures.below c.self.invariant.0,
  c.self.invariant.1,
  within-rewritten 256 (forest_of c.self.inside.children.items) (forest_of c.rewrite_below.new.children.items)
      (g.W.Rewriting.pass c.args.by.now) 0 0 1 c.begin.new.label c.rewrite_below.ensures.below c.self.invariant.2,
)

pub returns-clause-count : goal.returns-clause-count
returns-clause-count g c =
    let count = size_of-shown (forest_of c.self.inside.children.items) (plain_tree c.args.self.now)
    c.self.inside.size (ap (λ t. (plain_tree t).below) c.self.view_is) c.self.invariant.0 in
    c.saturating_add-self-inside.ensures ∙ ap (λ n. counted_by n c.self.inside.relabelled) count
    ∙ ap (λ t. counted_by (size_of (plain_tree c.args.self.now)) t.relabelled) c.self.view_is

use Rattle.std.proofs.Common.{sym, ◌∙◌, ap}
use Rattle.study_tree.specs.Tree.{plain_tree}
use Rattle.study_tree.proofs.ShownTrees.{has-step, is_some-copied}
use Rattle.study_tree.proofs.tree.Tree.has.Goals as goal

pub returns-in-Some : goal.returns-in-Some
returns-in-Some g c =
    c.is_some.ensures ∙ sym (is_some-copied c.node_in.result)
    ∙ has-step c.self.inside.children.items c.deref.result.now (plain_tree c.args.self.now).below c.in-Some.first.now c.in-Some.rest.now c.args.steps.now _
    c.deref.ensures.value (ap (λ t. (plain_tree t).below) c.self.view_is) c.node_in.ensures c.in-Some.ensures.cases.0

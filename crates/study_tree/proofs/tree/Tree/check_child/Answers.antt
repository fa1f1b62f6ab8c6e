use Rattle.std.proofs.Common.{sym, ap, arith}
use Rattle.study_tree.specs.Forest.{forest_of}
use Rattle.study_tree.specs.Tree.{plain_tree}
use Rattle.study_tree.proofs.ShownTrees.{child_refusal-full, child_refusal-none, size_of-shown}
use Rattle.study_tree.proofs.tree.Tree.check_child.Goals as goal

pub returns-then-self-ge-MAX_NODES-clause-err : goal.returns-then-self-ge-MAX_NODES-clause-err
returns-then-self-ge-MAX_NODES-clause-err g c =
    let count = size_of-shown (forest_of c.self.inside.children.items) (plain_tree c.args.self.now)
    c.self.inside.size (ap (λ t. (plain_tree t).below) c.self.view_is) c.self.invariant.0 in
    child_refusal-full (plain_tree c.args.self.now) c.args.steps.now (sym c.if-not-has.ensures)
    c.if-steps-ge-MAX_DEPTH.false (omega (arith, count, c.if-self-ge-MAX_NODES.true))

pub returns-else-self-ge-MAX_NODES-clause-ok : goal.returns-else-self-ge-MAX_NODES-clause-ok
returns-else-self-ge-MAX_NODES-clause-ok g c =
    let count = size_of-shown (forest_of c.self.inside.children.items) (plain_tree c.args.self.now)
    c.self.inside.size (ap (λ t. (plain_tree t).below) c.self.view_is) c.self.invariant.0 in
    child_refusal-none (plain_tree c.args.self.now) c.args.steps.now (sym c.if-not-has.ensures)
    c.if-steps-ge-MAX_DEPTH.false (omega (arith, count, c.if-self-ge-MAX_NODES.false))

use Rattle.std.proofs.Common.{sym, ◌∙◌, ap}
use Rattle.std.specs.Option.{option_copied}
use Rattle.study_tree.proofs.PathSteps.{node_in-none, node_in-here, node_in-step}
use Rattle.study_tree.proofs.node.+node_in.Goals as goal

pub returns-in_err-node : goal.returns-in_err-node
returns-in_err-node g t c =
    ap option_copied c.from_residual.ensures
    ∙ sym (node_in-none c.args.siblings.now c.args.first c.args.rest.now c.in_err-node.ensures.lookup.3)

pub returns-in-None : goal.returns-in-None
returns-in-None g t c =
    sym (node_in-here c.args.siblings.now c.args.first c.args.rest.now c.in_ok-node.node.now c.in-None.ensures.cases
    c.in_ok-node.ensures.lookup.3.0 c.in_ok-node.ensures.lookup.1)

pub returns-in-Some : goal.returns-in-Some
returns-in-Some g t c =
    c.node_in.ensures
    ∙ node_in-step c.args.siblings.now c.node.inside.children.items c.deref.result.now c.args.first
    c.in-Some.next.now c.in-Some.rest.now c.args.rest.now c.in_ok-node.node.now
    c.in_ok-node.ensures.lookup.3.0 c.in_ok-node.ensures.lookup.1 c.in-Some.ensures.cases.0 c.deref.ensures.value (ap (λ x. x.below) c.node.view_is)

use Rattle.std.proofs.Common.{refl, sym, ◌∙◌, ap}
use Rattle.study_tree.specs.Forest.{forest_of}
use Rattle.study_tree.specs.Edits.{without_spares}
use Rattle.study_tree.proofs.PathSteps.{plain-push}
use Rattle.study_tree.proofs.node.push_node.Goals as goal

pub returns-clause-added : goal.returns-clause-added
returns-clause-added g c =
    rw (sym c.in-Some.ensures.value)
    (ap (λ xs. without_spares (forest_of xs)) c.in_ok-push.ensures.items
    ∙ plain-push c.args.siblings.now.items _ c.args.played c.in-Some.label refl refl (ap (λ xs. without_spares (forest_of xs)) c.new.ensures.items))

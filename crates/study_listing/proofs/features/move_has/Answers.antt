use Rattle.std.proofs.Common.{◌≡◌, ◌↔◌, true, IfOk, sym, subst}
use Rattle.study_listing.specs.declared.features.Feature.{Feature}
use Rattle.study_listing.specs.Features.{MoveHas}
use Rattle.study_listing.proofs.features.move_has.Goals as goal

pub returns-in-Zugzwang-clause-game : goal.returns-in-Zugzwang-clause-game
returns-in-Zugzwang-clause-game g c h =
    subst (λ (f : Feature). IfOk c.leads_to_zugzwang.result (λ b. (b ≡ true) ↔ MoveHas f c.args.p.now c.args.m)) (sym c.in-Zugzwang.is)
    (c.leads_to_zugzwang.ensures.game h)

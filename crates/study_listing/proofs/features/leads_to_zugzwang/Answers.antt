use Rattle.std.proofs.Common.{◌≡◌, true, ◌↔◌, IfOk, subst}
use Rattle.study_board.specs.Position.{Position}
use Rattle.study_zugzwang.specs.Zugzwang.{IsZugzwang}
use Rattle.study_material.specs.Needs.{NeedsClass}
use Rattle.study_search.proofs.Faults.{needs-after, if-wider}
use Rattle.study_listing.proofs.features.leads_to_zugzwang.Goals as goal

pub returns-clause-faults : goal.returns-clause-faults
returns-clause-faults g c =
    if-wider g.V.Values.source (NeedsClass c.played-next.result) (NeedsClass c.args.p.now)
    (needs-after c.args.p.now c.played-next.result c.args.m c.men-men.ensures.valid c.requires.legal c.played-next.ensures.value)
    c.args.values.now c.is_zugzwang.result c.is_zugzwang.ensures.faults

pub returns-clause-game : goal.returns-clause-game
returns-clause-game g c h =
    subst (λ (q : Position). IfOk c.is_zugzwang.result (λ b. (b ≡ true) ↔ IsZugzwang q)) c.played-next.ensures.value (c.is_zugzwang.ensures.game h)

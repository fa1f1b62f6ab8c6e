use Rattle.std.proofs.Common.{◌≡◌, ◌∙◌, Some, sym, subst}
use Rattle.study_board.specs.Position.{Position}
use Rattle.study_index.specs.Computed.{position_numbered}
use Rattle.study_material.specs.Needs.{IsNeeded, NeedsClass}
use Rattle.study_search.proofs.Faults.{needs-decoded, if-wider}
use Rattle.study_search.specs.Finding.{IsLookedFor}
use Rattle.study_listing.proofs.Kin.{not-at}
use Rattle.study_listing.proofs.OneList.{same-some}
use Rattle.study_listing.proofs.Shown.{image-needs}
use Rattle.study_listing.proofs.listed.listed_at.Goals as goal

pub returns-in-Some-clause-needs : goal.returns-in-Some-clause-needs
returns-in-Some-clause-needs g c =
    let class = c.args.selection.now.search.class in
    image-needs class c.in-Some.p c.first_image.result (needs-decoded class c.args.number c.in-Some.p c.in-Some.ensures.some) c.first_image.ensures.needs

pub returns-in-Some-clause-faults : goal.returns-in-Some-clause-faults
returns-in-Some-clause-faults g c =
    let class = c.args.selection.now.search.class in
    if-wider g.V.Values.source (NeedsClass c.in-Some.p) (IsNeeded class) (needs-decoded class c.args.number c.in-Some.p c.in-Some.ensures.some)
    c.args.values.now c.first_image.result c.first_image.ensures.faults

pub returns-in-Some-clause-none : goal.returns-in-Some-clause-none
returns-in-Some-clause-none g c h found =
    let s = c.args.selection.now in
    let p = c.in-Some.p in
    let is : position_numbered s.search.class c.args.number ≡ Some p = sym c.in-Some.ensures.value in
    let sought = subst (λ (q : Position). IsLookedFor s.search q) (same-some found.0 p (sym found.1 ∙ is)) found.2 in
    not-at s c.args.number p c.first_image.result is (c.first_image.ensures.none h sought)

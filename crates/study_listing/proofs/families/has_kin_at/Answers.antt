use Rattle.std.proofs.Common.{◌≡◌, ◌↔◌, true, subst}
use Rattle.std.specs.Prelude.{IfOk}
use Rattle.study_material.specs.Needs.{NeedsClass}
use Rattle.study_values.specs.Index.{index_of}
use Rattle.study_search.proofs.Faults.{if-wider}
use Rattle.study_listing.specs.Lists.{IsEarlierKin}
use Rattle.study_listing.proofs.Kin.{moved-is}
use Rattle.study_listing.proofs.families.has_kin_at.Goals as goal

pub returns-in-Some-clause-game : goal.returns-in-Some-clause-game
returns-in-Some-clause-game g c h =
    let s = c.args.selection.now in
    let key = c.args.key.now in
    moved-is (IsEarlierKin s (index_of c.args.p.now) key.outcome key.played) c.args.p.now c.in-Some.q c.args.from c.args.to c.is_earlier_kin.result
    c.in-Some.ensures.some.0 c.in-Some.ensures.some.1
    (subst (λ n. IfOk c.is_earlier_kin.result (λ b. (b ≡ true) ↔ IsEarlierKin s n key.outcome key.played c.in-Some.q)) c.index.ensures.value
    (c.is_earlier_kin.ensures.game h))

pub returns-in-Some-clause-faults : goal.returns-in-Some-clause-faults
returns-in-Some-clause-faults g c =
    if-wider g.V.Values.source (NeedsClass c.in-Some.q) (NeedsClass c.args.p.now) c.in-Some.ensures.needs c.args.values.now c.is_earlier_kin.result
    c.is_earlier_kin.ensures.faults

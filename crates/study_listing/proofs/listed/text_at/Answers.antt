use Rattle.std.proofs.Common.{◌≡◌, Some}
use Rattle.study_board.specs.Position.{Position}
use Rattle.study_index.specs.Computed.{position_numbered}
use Rattle.study_listing.specs.Lists.{listed_image}
use Rattle.study_material.specs.declared.class.Class.{Class}
use Rattle.study_material.specs.Needs.{IsNeeded, NeedsClass}
use Rattle.study_search.proofs.Faults.{reported-wider, can_report}
use Rattle.study_listing.proofs.Written.{if-some}
use Rattle.study_listing.proofs.listed.text_at.Goals as goal

pub returns-in-Ok-clause-text : goal.returns-in-Ok-clause-text
returns-in-Ok-clause-text g c h found =
    let s = c.args.selection.now in
    let at = if-some (λ q. (p : Position) × (position_numbered s.search.class c.args.number ≡ Some p) × (listed_image s p ≡ Some q)) c.in-Ok-Some.image
    c.in-Ok-Some.field-0 (c.in-Ok-Some.ensures.image h found) c.in-Ok-Some.field-0-is in
    (at.0, at.1, (c.in-Ok-Some.image, at.2, c.in-Ok.ensures.game (c.listed_at.ensures.honest h)))

pub returns-in-Err-text_of-clause-faults : goal.returns-in-Err-text_of-clause-faults
returns-in-Err-text_of-clause-faults g c =
    let class = c.args.selection.now.search.class in
    let more = if-some (λ q. (k : Class) → NeedsClass q k → IsNeeded class k) c.in-Ok-Some.image c.in-Ok-Some.field-0 c.in-Ok-Some.ensures.needs
    c.in-Ok-Some.field-0-is in
    can_report g.V.Values.source (IsNeeded class) c.args.values.now c.listed_at.new.values c.in-Err-text_of.fault
    (reported-wider g.V.Values.source (NeedsClass c.in-Ok-Some.image) (IsNeeded class) more c.listed_at.new.values c.in-Err-text_of.fault
    c.in-Err-text_of.ensures.faults) c.listed_at.ensures.tables c.listed_at.ensures.honest

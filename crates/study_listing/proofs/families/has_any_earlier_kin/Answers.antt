use Rattle.study_search.specs.declared.only_moves.Outcome.TheVariants.{Win, Draw}
use Rattle.study_listing.specs.Lists.{HasEarlierKin}
use Rattle.study_listing.proofs.Kin.{either-so}
use Rattle.study_listing.proofs.families.has_any_earlier_kin.Goals as goal

pub returns-in-Ok-false-clause-game : goal.returns-in-Ok-false-clause-game
returns-in-Ok-false-clause-game g c h =
    let s = c.args.selection.now in
    let p = c.args.p.now in
    either-so (HasEarlierKin s Win p) (HasEarlierKin s Draw p) c.in-Ok-false.field-0 c.has_earlier_kin-in-Ok-false.result (c.in-Ok-false.ensures.game h)
    c.in-Ok-false.field-0-test (c.has_earlier_kin-in-Ok-false.ensures.game (c.has_earlier_kin.ensures.honest h))

use Rattle.study_listing.proofs.Kin.{no-kin, kin-by-key}
use Rattle.study_listing.proofs.families.has_earlier_kin.Goals as goal

pub returns-in-Ok-None-clause-game : goal.returns-in-Ok-None-clause-game
returns-in-Ok-None-clause-game g c h =
    no-kin c.args.selection.now c.args.outcome c.args.p.now c.in-Ok-None.field-0 (c.in-Ok-None.ensures.game h) c.in-Ok-None.field-0-is

pub returns-in-Ok-Some-clause-game : goal.returns-in-Ok-Some-clause-game
returns-in-Ok-Some-clause-game g c h =
    kin-by-key c.args.selection.now c.args.outcome c.args.p.now c.in-Ok-Some.field-0 (c.in-Ok-Some.ensures.game h) c.in-Ok-Some.played
    c.men.result.now c.has_kin_among.result c.in-Ok-Some.field-0-is c.men.ensures.value (c.has_kin_among.ensures.game (c.key_move.ensures.honest h))

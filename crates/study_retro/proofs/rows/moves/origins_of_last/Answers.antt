use Rattle.std.proofs.Common.{◌∙◌}
use Rattle.study_retro.proofs.RowMoveLemmas.{led_itself}
use Rattle.study_retro.proofs.rows.moves.origins_of_last.Goals as goal

pub returns : goal.returns
returns c side whose tells apart a on =
    c.without.ensures a on
    ∙ rw (c.origins_among.ensures a on, c.on.ensures)
    (led_itself c.args.others.now c.args.last.now c.args.square side c.args.check tells apart a on whose)

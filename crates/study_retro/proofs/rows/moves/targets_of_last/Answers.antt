use Rattle.std.proofs.Common.{◌∙◌}
use Rattle.study_retro.proofs.RowMoveLemmas.{going_itself}
use Rattle.study_retro.proofs.rows.moves.targets_of_last.Goals as goal

pub returns : goal.returns
returns c side whose tells apart a on =
    c.without.ensures a on
    ∙ rw (c.targets_among.ensures a on, c.on.ensures)
    (going_itself c.args.others.now c.args.last.now c.args.square side c.args.check tells apart a on whose)

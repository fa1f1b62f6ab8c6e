use Rattle.std.proofs.Common.{◌∙◌}
use Rattle.study_retro.proofs.RowMoveLemmas.{led_with}
use Rattle.study_retro.proofs.rows.moves.squares_allowing_unmove.Goals as goal

pub returns : goal.returns
returns c y ly apart =
    let checks = c.args.checks.now in
    c.squares_not_interfering.ensures y ly apart
    ∙ led_with checks.others.now checks.last.now y checks.man.now c.args.origin c.requires.man apart checks.side c.requires.side c.requires.comes

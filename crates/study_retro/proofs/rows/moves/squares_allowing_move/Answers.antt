use Rattle.std.proofs.Common.{◌∙◌}
use Rattle.study_retro.proofs.RowMoveLemmas.{going_with}
use Rattle.study_retro.proofs.rows.moves.squares_allowing_move.Goals as goal

pub returns : goal.returns
returns c y ly apart =
    let checks = c.args.checks.now in
    c.squares_not_interfering.ensures y ly apart
    ∙ going_with checks.others.now checks.last.now y checks.man.now c.args.target c.requires.man apart checks.side c.requires.side c.requires.goes

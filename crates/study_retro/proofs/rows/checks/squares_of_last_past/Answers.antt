use Rattle.std.proofs.Common.{◌&&◌, Bool, [], ◌∷◌, ◌∙◌, ap}
use Rattle.study_board.specs.declared.men.Side.{Side}
use Rattle.study_board.specs.Men.{attacks_square}
use Rattle.study_board.specs.Sets.{has}
use Rattle.study_retro.specs.RowMoves.{does_not_block}
use Rattle.study_retro.specs.Still.{opposing_man, on_square}
use Rattle.study_retro.proofs.CheckLemmas.{past_one}
use Rattle.study_retro.proofs.RowChecks.{bears_men}
use Rattle.study_retro.proofs.rows.checks.squares_of_last_past.Goals as goal

pub returns : goal.returns
returns c y ly =
    let last = c.args.last.now in
    let man = c.args.man.now in
    let to = c.args.to in
    let x = c.args.x in
    let f = opposing_man last x in
    let checks = c.args.checks in
    c.intersection.ensures y
    ∙ ap (λ (b : Bool). has checks y && b) (c.attacks.ensures y ly
    ∙ ap (λ (s : Side). attacks_square (on_square man to ∷ []) (record { side = s; kind = last.kind; at = x }) y) c.other.ensures)
    ∙ past_one (has checks y) (attacks_square [] f y) (attacks_square (on_square man to ∷ []) f y) (does_not_block f y to) (c.requires y ly)
    (bears_men [] man to f y)

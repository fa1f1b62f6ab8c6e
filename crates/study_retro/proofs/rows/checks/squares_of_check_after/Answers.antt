use Rattle.std.proofs.Common.{◌++◌, ◌∷◌, [], List, ◌∙◌, ap}
use Rattle.study_board.specs.declared.men.Man.{Man}
use Rattle.study_board.specs.Position.{in_check}
use Rattle.study_retro.specs.Still.{on_square}
use Rattle.study_retro.proofs.CheckLemmas.{check_by_king}
use Rattle.study_retro.proofs.rows.checks.squares_of_check_after.Goals as goal

pub returns-in-Some : goal.returns-in-Some
returns-in-Some c y ly apart =
    let checks = c.args.checks.now in
    let k = c.in-Some.king in
    c.squares_attacking_after.ensures y ly apart
    ∙ check_by_king checks.others.now checks.last.now checks.man.now.at c.args.to y checks.side k (checks.only k c.in-Some.is) checks.piece

pub returns-in-None : goal.returns-in-None
returns-in-None c y ly apart =
    let checks = c.args.checks.now in
    c.squares_of_check.ensures y ly
    ∙ ap (λ (zs : List Man). in_check (zs ++ on_square checks.last.now y ∷ []) checks.side) (c.as_slice.ensures.value ∙ c.with_man_on-moved.ensures)

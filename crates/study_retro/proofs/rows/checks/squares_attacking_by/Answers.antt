use Rattle.std.proofs.Common.{Bool, ◌||◌, ◌&&◌, List, ◌∙◌, ap}
use Rattle.std.specs.List.{list_any}
use Rattle.study_board.specs.declared.men.Man.{Man}
use Rattle.study_board.specs.declared.men.Side.{Side}
use Rattle.study_board.specs.Men.{attacks_square, other_side, same_side}
use Rattle.study_board.specs.Sets.{has}
use Rattle.study_retro.specs.declared.rows.checks.Attacker.{Attacker}
use Rattle.study_retro.specs.RowMoves.{does_not_block, keeps_attack_with}
use Rattle.study_retro.specs.Still.{opposing_man}
use Rattle.study_retro.proofs.CheckLemmas.{among_attackers}
use Rattle.study_retro.proofs.rows.checks.squares_attacking_by.Goals as goal

pub returns : goal.returns
returns c y ly =
    let checks = c.args.checks.now in
    let men = checks.men.items in
    let last = checks.last.now in
    let by = other_side checks.side in
    let x = c.args.x in
    c.union.ensures y
    ∙ ap (λ (b : Bool). b || has c.squares_of_last-of_last.result y)
    (c.squares_attacking_of.ensures y ly
    ∙ ap (λ (l : List Attacker). list_any (λ b. has b.squares x && does_not_block b.man x y) l) c.as_slice-attackers.ensures.value
    ∙ among_attackers men by checks.attackers.items checks.bear x y c.number-square.ensures.small)
    ∙ ap (λ (b : Bool). list_any (λ m. same_side m.side by && keeps_attack_with men y m x) men || b)
    (c.squares_of_last-of_last.ensures y ly
    ∙ ap (λ (s : Side). same_side last.side s && attacks_square c.as_slice-men.result.now (opposing_man last x) y) c.other.ensures
    ∙ ap (λ (zs : List Man). same_side last.side by && attacks_square zs (opposing_man last x) y) c.as_slice-men.ensures.value)

use Rattle.std.proofs.Common.{◌≡◌, false, sym, ◌∙◌}
use Rattle.study_board.proofs.SetBits.{has-zero, none_unless}
use Rattle.study_retro.specs.RowMoves.{does_not_block}
use Rattle.study_retro.proofs.rows.checks.squares_keeping_attack_past.Goals as goal

pub returns-then-not-contains : goal.returns-then-not-contains
returns-then-not-contains c y ly = rw c.empty.ensures (none_unless _ _ y (sym c.contains.ensures ∙ c.if-not-contains.true))

pub returns-then-not-contains-2 : goal.returns-then-not-contains-2
returns-then-not-contains-2 c y ly =
    let none : does_not_block c.args.b.now.man c.args.x c.args.to ≡ false =
    sym (c.non_blocking_squares-set.ensures c.args.to c.number-square.ensures.small) ∙ sym c.contains-2.ensures ∙ c.if-not-contains-2.true in
    rw (c.empty-then-not-contains-2.ensures, sym c.contains.ensures ∙ c.if-not-contains.false, none) (has-zero y)

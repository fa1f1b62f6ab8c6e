use Rattle.std.proofs.Common.{refl, sym, ◌∙◌}
use Rattle.study_board.proofs.SetBits.{none_unless}
use Rattle.study_retro.proofs.rows.checks.squares_keeping_attack.Goals as goal

pub returns-then-not-side_attacks_past : goal.returns-then-not-side_attacks_past
returns-then-not-side_attacks_past c y ly = rw c.empty.ensures (none_unless _ _ y (sym c.side_attacks_past.ensures ∙ c.if-not-side_attacks_past.true))

pub returns : goal.returns
returns c y ly = rw (c.non_blocking_squares.ensures y ly, sym c.side_attacks_past.ensures ∙ c.if-not-side_attacks_past.false) refl

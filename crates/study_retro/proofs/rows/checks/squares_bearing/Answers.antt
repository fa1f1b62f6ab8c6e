use Rattle.std.proofs.Common.{refl, sym, ◌∙◌}
use Rattle.study_board.proofs.SetBits.{none_unless}
use Rattle.study_retro.proofs.rows.checks.squares_bearing.Goals as goal

pub returns-then-not-contains : goal.returns-then-not-contains
returns-then-not-contains c y ly = rw c.empty.ensures (none_unless _ _ y (sym c.contains.ensures ∙ c.if-not-contains.true))

pub returns : goal.returns
returns c y ly = rw (c.non_blocking_squares.ensures y ly, sym c.contains.ensures ∙ c.if-not-contains.false) refl

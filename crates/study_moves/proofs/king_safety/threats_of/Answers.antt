use Rattle.std.proofs.Common.{◌∙◌, sym}
use Rattle.study_board.proofs.SetBits.{none_unless}
use Rattle.study_moves.specs.KingSafety.{is_no_shield}
use Rattle.study_moves.proofs.KingSafety.{when_first}
use Rattle.study_moves.proofs.king_safety.threats_of.Goals as goal

pub returns-then-attacks_past : goal.returns-then-attacks_past
returns-then-attacks_past c x lx =
    when_first _ _ _ (sym c.attacks_past.ensures ∙ c.if-attacks_past.true) (c.squares_not_blocking.ensures x lx)

pub returns-else-attacks_past : goal.returns-else-attacks_past
returns-else-attacks_past c x lx =
    rw c.empty.ensures
    (none_unless _ (is_no_shield c.args.m.now c.args.k x) x (sym c.attacks_past.ensures ∙ c.if-attacks_past.false))

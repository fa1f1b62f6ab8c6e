use Rattle.std.proofs.Common.{◌∙◌, sym}
use Rattle.study_board.proofs.EqualMen.{side_same}
use Rattle.study_moves.proofs.ClosedSquares.{closed_by_own, closed_by_other}
use Rattle.study_moves.proofs.targets.closed_by.Goals as goal

pub returns-then-eq : goal.returns-then-eq
returns-then-eq c x lx =
    closed_by_own c.args.men.now c.args.side c.args.man.now x c.args.m.now _ _ _ (sym (c.eq.ensures ∙ side_same _ _) ∙ c.if-eq.true)
    (c.of.ensures x lx) (c.threats_to.ensures x lx) (c.union.ensures x)

pub returns-else-eq : goal.returns-else-eq
returns-else-eq c x lx =
    closed_by_other c.args.men.now c.args.side c.args.man.now x c.args.m.now _ (sym (c.eq.ensures ∙ side_same _ _) ∙ c.if-eq.false)
    (c.closed_to_king.ensures x lx)

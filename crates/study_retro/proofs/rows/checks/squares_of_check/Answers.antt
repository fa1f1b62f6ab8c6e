use Rattle.std.proofs.Common.{◌∙◌, arith, ap, List}
use Rattle.std.specs.List.{list_any}
use Rattle.std.proofs.lemmas.List.{take_all}
use Rattle.study_board.specs.declared.men.Man.{Man}
use Rattle.study_board.proofs.SetBits.{any_none, any_more}
use Rattle.study_retro.specs.RowMoves.{king_attacked_with}
use Rattle.study_retro.proofs.RowChecks.{row_check}
use Rattle.study_retro.proofs.rows.checks.squares_of_check.Goals as goal

pub loop-k-init : goal.loop-k-init
loop-k-init c y ly = rw c.empty-set.ensures (any_none (king_attacked_with c.args.others.now c.args.last.now c.args.side y) y)

pub loop-k-preserved : goal.loop-k-preserved
loop-k-preserved c y ly =
    any_more (king_attacked_with c.args.others.now c.args.last.now c.args.side y) c.args.others.now
    c.loop-k.k-index _ c.k-item.result y _ _ _ c.loop-k-test.true c.k-item.is (c.loop-k.invariant y ly)
    (c.squares_attacking_king.ensures y ly) (c.union-set.ensures y)

pub returns : goal.returns
returns c y ly =
    c.loop-k.invariant y ly
    ∙ ap (λ (l : List Man). list_any (king_attacked_with c.args.others.now c.args.last.now c.args.side y) l)
    (take_all c.loop-k.k-index c.args.others.now (omega arith))
    ∙ row_check c.args.others.now c.args.last.now y c.args.side c.requires

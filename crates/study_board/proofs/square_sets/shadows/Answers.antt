use Rattle.std.proofs.Common.{◌∙◌, arith, ap, List}
use Rattle.std.proofs.lemmas.List.{take_all}
use Rattle.study_board.specs.declared.men.Man.{Man}
use Rattle.study_board.specs.Men.{is_blocked}
use Rattle.study_board.proofs.SetBits.{is_blocked_none, is_blocked_more}
use Rattle.study_board.proofs.square_sets.shadows.Goals as goal

pub loop-m-init : goal.loop-m-init
loop-m-init c x lx = rw c.empty-set.ensures (is_blocked_none c.args.a x)

pub loop-m-preserved : goal.loop-m-preserved
loop-m-preserved c x lx =
    is_blocked_more c.args.men.now c.loop-m.m-index _ c.m-item.result c.args.a x _ _ _ c.loop-m-test.true
    c.m-item.is (c.loop-m.invariant x lx) (c.shadow.ensures x lx) (c.union-set.ensures x)

pub returns : goal.returns
returns c x lx =
    let whole = take_all c.loop-m.m-index c.args.men.now (omega arith) in
    c.loop-m.invariant x lx ∙ ap (λ (l : List Man). is_blocked l c.args.a x) whole

use Rattle.std.proofs.Common.{◌∙◌, arith, ap, List}
use Rattle.std.proofs.lemmas.List.{take_all}
use Rattle.study_board.specs.declared.men.Man.{Man}
use Rattle.study_board.specs.Sets.{is_blocked_past}
use Rattle.study_board.proofs.SetBits.{blocked_past_none, blocked_past_more}
use Rattle.study_board.proofs.square_sets.shadows_without.Goals as goal

pub loop-m-init : goal.loop-m-init
loop-m-init c x lx = rw c.empty-set.ensures (blocked_past_none c.args.lifted c.args.a x)

pub loop-m-preserved : goal.loop-m-preserved
loop-m-preserved c x lx =
    blocked_past_more c.args.lifted c.args.a c.args.men.now c.loop-m.m-index _ c.m-item.result x _ _ _
    c.loop-m-test.true c.m-item.is (c.loop-m.invariant x lx) (c.shadow_without.ensures x lx)
    (c.union-set.ensures x)

pub returns : goal.returns
returns c x lx =
    let whole = take_all c.loop-m.m-index c.args.men.now (omega arith) in
    c.loop-m.invariant x lx ∙ ap (λ (l : List Man). is_blocked_past l c.args.lifted c.args.a x) whole

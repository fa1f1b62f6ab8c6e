use Rattle.std.proofs.Common.{◌∙◌, ◌&&◌, arith, ap, List}
use Rattle.std.specs.List.{list_any}
use Rattle.std.proofs.lemmas.List.{take_all}
use Rattle.study_board.specs.declared.men.Man.{Man}
use Rattle.study_board.specs.Men.{attacks_square, same_side}
use Rattle.study_board.proofs.SetBits.{any_none, any_more}
use Rattle.study_retro.proofs.StillChess.{attacked_is}
use Rattle.study_retro.proofs.numbers.quiet.attacked_squares.Goals as goal

pub loop-m-init : goal.loop-m-init
loop-m-init c x lx = rw c.empty-set.ensures (any_none (λ m. same_side m.side c.args.side && attacks_square c.args.men.now m x) x)

pub loop-m-preserved : goal.loop-m-preserved
loop-m-preserved c x lx =
    any_more (λ m. same_side m.side c.args.side && attacks_square c.args.men.now m x) c.args.men.now
    c.loop-m.m-index _ c.m-item.result x _ _ _ c.loop-m-test.true c.m-item.is (c.loop-m.invariant x lx)
    (c.attacks_if_side.ensures x lx) (c.union-set.ensures x)

pub returns : goal.returns
returns c x lx =
    let whole = take_all c.loop-m.m-index c.args.men.now (omega arith) in
    c.loop-m.invariant x lx
    ∙ ap (λ (l : List Man). list_any (λ m. same_side m.side c.args.side && attacks_square c.args.men.now m x) l) whole
    ∙ attacked_is c.args.men.now c.args.side x

use Rattle.std.proofs.Common.{◌∙◌, ◌==◌, arith, ap, List}
use Rattle.std.specs.List.{list_any}
use Rattle.std.proofs.lemmas.List.{take_all}
use Rattle.study_board.specs.declared.men.Man.{Man}
use Rattle.study_board.proofs.SetBits.{any_none, any_more}
use Rattle.study_moves.proofs.QuietChecks.{is_occupied_is}
use Rattle.study_retro.proofs.numbers.moves.occupied_squares.Goals as goal

pub loop-m-init : goal.loop-m-init
loop-m-init c x lx = rw c.empty-set.ensures (any_none (λ m. m.at == x) x)

pub loop-m-preserved : goal.loop-m-preserved
loop-m-preserved c x lx =
    any_more (λ m. m.at == x) c.args.men.now c.loop-m.m-index _ c.m-item.result x _ _ _ c.loop-m-test.true
    c.m-item.is (c.loop-m.invariant x lx) (c.of.ensures x lx) (c.union-set.ensures x)

pub returns : goal.returns
returns c x lx =
    let whole = take_all c.loop-m.m-index c.args.men.now (omega arith) in
    c.loop-m.invariant x lx ∙ ap (λ (l : List Man). list_any (λ m. m.at == x) l) whole ∙ is_occupied_is c.args.men.now x

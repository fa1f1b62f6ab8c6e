use Rattle.std.proofs.Common.{◌∙◌, ◌&&◌, [], arith, ap, List}
use Rattle.std.specs.List.{list_any}
use Rattle.std.proofs.lemmas.List.{take_all}
use Rattle.study_board.specs.declared.men.Man.{Man}
use Rattle.study_board.specs.Men.{attacks_square}
use Rattle.study_board.proofs.SetBits.{any_none, any_more}
use Rattle.study_retro.specs.Still.{opposing_man, is_relevant_target}
use Rattle.study_retro.proofs.rows.quiet.squares_bearing.Goals as goal

pub loop-m-init : goal.loop-m-init
loop-m-init c y ly = rw c.empty-set.ensures
    (any_none (λ m. is_relevant_target c.args.last.now c.args.to_move m && attacks_square [] (opposing_man c.args.last.now m.at) y) y)

pub loop-m-preserved : goal.loop-m-preserved
loop-m-preserved c y ly =
    any_more (λ m. is_relevant_target c.args.last.now c.args.to_move m && attacks_square [] (opposing_man c.args.last.now m.at) y) c.args.others.now
    c.loop-m.m-index _ c.m-item.result y _ _ _ c.loop-m-test.true c.m-item.is (c.loop-m.invariant y ly)
    (c.squares_against.ensures y ly) (c.union-set.ensures y)

pub returns : goal.returns
returns c y ly =
    c.loop-m.invariant y ly
    ∙ ap (λ (l : List Man). list_any (λ m. is_relevant_target c.args.last.now c.args.to_move m && attacks_square [] (opposing_man c.args.last.now m.at) y) l)
    (take_all c.loop-m.m-index c.args.others.now (omega arith))

use Rattle.std.proofs.Common.{◌∙◌, ◌&&◌, not, arith, ap, List}
use Rattle.std.specs.List.{list_any}
use Rattle.std.proofs.lemmas.List.{take_all}
use Rattle.study_board.specs.declared.men.Man.{Man}
use Rattle.study_board.specs.Geometry.{strictly_between}
use Rattle.study_board.specs.Men.{attacks_square, same_side}
use Rattle.study_board.specs.Sets.{is_slider}
use Rattle.study_board.proofs.SetBits.{any_none, any_more}
use Rattle.study_retro.specs.RowMoves.{keeps_attack_with}
use Rattle.study_retro.proofs.RowChecks.{and_and}
use Rattle.study_retro.proofs.rows.checks.squares_attacking.Goals as goal

pub loop-m-init : goal.loop-m-init
loop-m-init c y ly = rw c.empty-set.ensures (any_none (λ m. same_side m.side c.args.by && keeps_attack_with c.args.others.now y m c.args.x) y)

pub loop-m-preserved : goal.loop-m-preserved
loop-m-preserved c y ly =
    any_more (λ m. same_side m.side c.args.by && keeps_attack_with c.args.others.now y m c.args.x) c.args.others.now
    c.loop-m.m-index _ c.m-item.result y _ _ _ c.loop-m-test.true c.m-item.is (c.loop-m.invariant y ly)
    (c.squares_keeping_attack.ensures y ly ∙ and_and (same_side c.m-item.result.side c.args.by) (attacks_square c.args.others.now c.m-item.result c.args.x)
    (not (is_slider c.m-item.result.kind && strictly_between c.m-item.result.at y c.args.x))) (c.union-set.ensures y)

pub returns : goal.returns
returns c y ly =
    c.loop-m.invariant y ly
    ∙ ap (λ (l : List Man). list_any (λ m. same_side m.side c.args.by && keeps_attack_with c.args.others.now y m c.args.x) l)
    (take_all c.loop-m.m-index c.args.others.now (omega arith))

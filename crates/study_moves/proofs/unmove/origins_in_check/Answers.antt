use Rattle.std.proofs.Common.{◌∙◌, arith, ap, List}
use Rattle.std.specs.List.{list_any}
use Rattle.std.proofs.lemmas.List.{take_all}
use Rattle.study_board.specs.declared.men.Man.{Man}
use Rattle.study_board.proofs.SetBits.{any_none, any_more}
use Rattle.study_moves.specs.Unmoves.{king_was_attacked}
use Rattle.study_moves.proofs.QuietChecks.{was_check_is}
use Rattle.study_moves.proofs.unmove.origins_in_check.Goals as goal

pub loop-k-init : goal.loop-k-init
loop-k-init c a la = rw c.empty-set.ensures (any_none (king_was_attacked c.args.men.now c.args.side c.args.man.now a) a)

pub loop-k-preserved : goal.loop-k-preserved
loop-k-preserved c a la =
    any_more (king_was_attacked c.args.men.now c.args.side c.args.man.now a) c.args.men.now c.loop-k.k-index _
    c.k-item.result a _ _ _ c.loop-k-test.true c.k-item.is (c.loop-k.invariant a la) (c.origins_attacking.ensures a la)
    (c.union-set.ensures a)

pub returns : goal.returns
returns c a la =
    let whole = take_all c.loop-k.k-index c.args.men.now (omega arith) in
    c.loop-k.invariant a la
    ∙ ap (λ (l : List Man). list_any (king_was_attacked c.args.men.now c.args.side c.args.man.now a) l) whole
    ∙ was_check_is c.args.men.now c.args.side c.args.man.now a

use Rattle.std.proofs.Common.{◌∙◌, arith, ap, List}
use Rattle.std.specs.List.{list_any}
use Rattle.std.proofs.lemmas.List.{take_all}
use Rattle.study_board.specs.declared.men.Man.{Man}
use Rattle.study_board.proofs.SetBits.{any_none, any_more}
use Rattle.study_moves.specs.KingSafety.{king_threatened}
use Rattle.study_moves.proofs.KingSafety.{others_threatened_is}
use Rattle.study_moves.proofs.king_safety.threatened_by_others.Goals as goal

pub loop-k-init : goal.loop-k-init
loop-k-init c x lx = rw c.empty-set.ensures (any_none (king_threatened c.args.men.now c.args.side c.args.lifted x) x)

pub loop-k-preserved : goal.loop-k-preserved
loop-k-preserved c x lx =
    any_more (king_threatened c.args.men.now c.args.side c.args.lifted x) c.args.men.now c.loop-k.k-index _
    c.k-item.result x _ _ _ c.loop-k-test.true c.k-item.is (c.loop-k.invariant x lx) (c.threats_to.ensures x lx)
    (c.union-set.ensures x)

pub returns : goal.returns
returns c x lx =
    let whole = take_all c.loop-k.k-index c.args.men.now (omega arith) in
    c.loop-k.invariant x lx
    ∙ ap (λ (l : List Man). list_any (king_threatened c.args.men.now c.args.side c.args.lifted x) l) whole
    ∙ others_threatened_is c.args.men.now c.args.side c.args.lifted x

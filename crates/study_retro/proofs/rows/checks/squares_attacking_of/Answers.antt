use Rattle.std.proofs.Common.{◌&&◌, List, sym, ◌∙◌, ap, arith}
use Rattle.std.specs.List.{list_any}
use Rattle.std.proofs.lemmas.List.{take_all}
use Rattle.study_board.specs.Sets.{has}
use Rattle.study_board.proofs.SetBits.{has-zero}
use Rattle.study_retro.specs.declared.rows.checks.Attacker.{Attacker}
use Rattle.study_retro.specs.RowMoves.{does_not_block}
use Rattle.study_retro.proofs.CheckLemmas.{gathered, none_with}
use Rattle.study_retro.proofs.rows.checks.squares_attacking_of.Goals as goal

pub returns-then-not-contains : goal.returns-then-not-contains
returns-then-not-contains c y ly =
    rw c.empty-set.ensures (has-zero y ∙ sym (none_with c.args.attackers.now (λ m. does_not_block m c.args.x y) c.args.x
    (sym (c.requires c.args.x c.number-square.ensures.small) ∙ sym c.contains.ensures ∙ c.if-not-contains.true)))

pub loop-b-init : goal.loop-b-init
loop-b-init c y ly = rw c.empty-set.ensures (has-zero y)

pub loop-b-preserved : goal.loop-b-preserved
loop-b-preserved c y ly =
    gathered (λ b. has b.squares c.args.x && does_not_block b.man c.args.x y) c.args.attackers.now c.loop-b.b-index _ c.b-item.result y _ _ _
    c.loop-b-test.true c.b-item.is (c.loop-b.invariant y ly) (c.squares_bearing.ensures y ly) (c.union-set.ensures y)

pub returns : goal.returns
returns c y ly =
    c.loop-b.invariant y ly
    ∙ ap (λ (l : List Attacker). list_any (λ b. has b.squares c.args.x && does_not_block b.man c.args.x y) l)
    (take_all c.loop-b.b-index c.args.attackers.now (omega arith))

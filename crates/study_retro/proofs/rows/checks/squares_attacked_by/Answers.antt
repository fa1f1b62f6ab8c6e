use Rattle.std.proofs.Common.{refl, List, ◌∙◌, ap, arith}
use Rattle.std.specs.List.{list_any}
use Rattle.std.proofs.lemmas.List.{take_all}
use Rattle.study_board.specs.Sets.{has}
use Rattle.study_board.proofs.SetBits.{has-zero}
use Rattle.study_retro.specs.declared.rows.checks.Attacker.{Attacker}
use Rattle.study_retro.proofs.CheckLemmas.{gathered}
use Rattle.study_retro.proofs.rows.checks.squares_attacked_by.Goals as goal

pub loop-b-init : goal.loop-b-init
loop-b-init c x on = rw c.empty-set.ensures (has-zero x)

pub loop-b-preserved : goal.loop-b-preserved
loop-b-preserved c x on =
    gathered (λ b. has b.squares x) c.args.attackers.now c.loop-b.b-index _ c.b-item.result x _ _ _ c.loop-b-test.true c.b-item.is
    (c.loop-b.invariant x on) refl (c.union-set.ensures x)

pub returns : goal.returns
returns c x on =
    c.loop-b.invariant x on
    ∙ ap (λ (l : List Attacker). list_any (λ b. has b.squares x) l) (take_all c.loop-b.b-index c.args.attackers.now (omega arith))

use Rattle.std.proofs.Common.{◌≡◌, ◌&&◌, ◌++◌, ◌∷◌, [], true, false, length, List, sym, ◌∙◌, ap, arith}
use Rattle.std.specs.List.{list_any}
use Rattle.std.proofs.lemmas.List.{take_all}
use Rattle.study_board.specs.declared.men.Man.{Man}
use Rattle.study_board.specs.Men.{attacks_square, same_side}
use Rattle.study_board.specs.Sets.{has}
use Rattle.study_board.proofs.EqualMen.{side_same}
use Rattle.study_retro.specs.declared.rows.checks.Attacker.{Attacker}
use Rattle.study_retro.proofs.CheckLemmas.{attacker_less, attacker_more}
use Rattle.study_retro.proofs.rows.checks.attackers_of.Goals as goal
use Rattle.study_retro.proofs.rows.checks.attackers_of.Goals.{then-eq, else-eq}

pub loop-m-init : goal.loop-m-init
loop-m-init c = record {
  few = (let e = ap length c.new-list.ensures in omega (arith, e));
  bear = λ x on p. ap (λ (l : List Attacker). list_any (λ b. has b.squares x && p b.man) l) c.new-list.ensures;
}

pub loop-m-preserved : goal.loop-m-preserved
loop-m-preserved c =
    let inv = c.loop-m.invariant in
    let bs = c.loop-m.list.items in
    let m = c.m-item.result in
    let men = c.args.men.now in
    let by = c.args.by in
    let i = c.loop-m.m-index in
    elim c.if-eq.branch [
      | then-eq w ↦ rw w.list-is (
          let b : Attacker = record { man = m; squares = w.attacks.result } in
          let more : w.push.new.self.items ≡ bs ++ b ∷ [] = w.push.ensures.items in
          let ours : same_side m.side by ≡ true = sym (side_same m.side by) ∙ sym c.eq.ensures ∙ w.if-eq.true in
          record {
            few = (let f = inv.few in omega (arith, f, ap length more));
            bear = λ x on p. ap (λ (l : List Attacker). list_any (λ b. has b.squares x && p b.man) l) more
                ∙ attacker_more men by i _ m c.loop-m-test.true c.m-item.is x p bs w.attacks.result (inv.bear x on p) (w.attacks.ensures x on) ours;
          })
      | else-eq w ↦ rw w.list-is (
          let other : same_side m.side by ≡ false = sym (side_same m.side by) ∙ sym c.eq.ensures ∙ w.if-eq.false in
          record {
            few = (let f = inv.few in omega (arith, f));
            bear = λ x on p. inv.bear x on p ∙ attacker_less men by i _ m c.loop-m-test.true c.m-item.is x p other;
          })
    ]

pub returns : goal.returns
returns c = λ x on p.
    c.loop-m.invariant.bear x on p
    ∙ ap (λ (l : List Man). list_any (λ m. (same_side m.side c.args.by && attacks_square c.args.men.now m x) && p m) l)
    (take_all c.loop-m.m-index c.args.men.now (omega arith))

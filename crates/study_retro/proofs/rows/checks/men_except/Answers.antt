use Rattle.std.proofs.Common.{◌≡◌, ◌==◌, ◌&&◌, ◌++◌, ◌∷◌, [], not, true, false, length, List, sym, ◌∙◌, ap, arith}
use Rattle.std.specs.List.{list_any}
use Rattle.std.proofs.lemmas.List.{take_all}
use Rattle.study_board.specs.declared.men.Man.{Man}
use Rattle.study_retro.proofs.CheckLemmas.{staying_less, staying_more}
use Rattle.study_retro.proofs.rows.checks.men_except.Goals as goal
use Rattle.study_retro.proofs.rows.checks.men_except.Goals.{then-ne, else-ne}

pub loop-m-init : goal.loop-m-init
loop-m-init c = record {
  few = (let e = ap length c.new-list.ensures in omega (arith, e));
  rest = λ p. ap (λ (l : List Man). list_any p l) c.new-list.ensures;
}

pub loop-m-preserved : goal.loop-m-preserved
loop-m-preserved c =
    let inv = c.loop-m.invariant in
    let xs = c.loop-m.list.items in
    let m = c.m-item.result in
    elim c.if-ne.branch [
      | then-ne w ↦ rw w.list-is (
          let more : w.push.new.self.items ≡ xs ++ m ∷ [] = w.push.ensures.items in
          let stays : not (m.at == c.args.from) ≡ true = sym c.ne.ensures ∙ w.if-ne.true in
          record {
            few = (let f = inv.few in omega (arith, f, ap length more));
            rest = λ p. ap (λ (l : List Man). list_any p l) more
                ∙ staying_more c.args.others.now c.args.from c.loop-m.m-index _ m c.loop-m-test.true c.m-item.is xs inv.rest stays p;
          })
      | else-ne w ↦ rw w.list-is (
          let goes : not (m.at == c.args.from) ≡ false = sym c.ne.ensures ∙ w.if-ne.false in
          record {
            few = (let f = inv.few in omega (arith, f));
            rest = staying_less c.args.others.now c.args.from c.loop-m.m-index _ m c.loop-m-test.true c.m-item.is xs inv.rest goes;
          })
    ]

pub returns : goal.returns
returns c = λ p.
    c.loop-m.invariant.rest p
    ∙ ap (λ (l : List Man). list_any (λ m. not (m.at == c.args.from) && p m) l) (take_all c.loop-m.m-index c.args.others.now (omega arith))

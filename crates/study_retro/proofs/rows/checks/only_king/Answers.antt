use Rattle.std.proofs.Common.{◌≡◌, ◌&&◌, true, false, List, sym, ◌∙◌, ap, arith}
use Rattle.std.specs.List.{list_any}
use Rattle.std.proofs.lemmas.Bool.{false≢true}
use Rattle.std.proofs.lemmas.List.{take_all}
use Rattle.study_board.specs.declared.men.Man.{Man}
use Rattle.study_board.specs.declared.men.Kind.TheVariants.{King}
use Rattle.study_board.specs.Men.{is_man}
use Rattle.study_retro.proofs.CheckLemmas.{king_less, king_more}
use Rattle.study_retro.proofs.rows.checks.only_king.Goals as goal
use Rattle.study_retro.proofs.rows.checks.only_king.Goals.{then-is, else-is}

pub loop-m-preserved : goal.loop-m-preserved
loop-m-preserved c =
    let inv = c.loop-m.invariant in
    let m = c.m-item.result in
    let men = c.args.men.now in
    let side = c.args.side in
    let i = c.loop-m.m-index in
    elim c.if-is.branch [
      | then-is w ↦
          let king : is_man side King m ≡ true = sym c.is.ensures ∙ w.if-is.true in
          rw (w.more-is, w.some-is, w.square-is) (record {
            none = λ e. absurd (false≢true (sym e));
            one = λ e t. king_more men side i _ m c.loop-m-test.true c.m-item.is king (inv.none e);
          })
      | else-is w ↦
          let other : is_man side King m ≡ false = sym c.is.ensures ∙ w.if-is.false in
          let less = king_less men side i _ m c.loop-m-test.true c.m-item.is other in
          rw (w.more-is, w.some-is, w.square-is) (record {
            none = λ e f. less f ∙ inv.none e f;
            one = λ e t f. less f ∙ inv.one e t f;
          })
    ]

pub returns : goal.returns
returns c = λ f.
    ap (λ (l : List Man). list_any (λ k. is_man c.args.side King k && f k.at) l) (sym (take_all c.loop-m.m-index c.args.men.now (omega arith)))
    ∙ c.loop-m.invariant.one c.if-more.false c.if-not-some.false f

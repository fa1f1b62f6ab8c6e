use Rattle.std.proofs.Common.{◌≡◌, ◌∙◌, sym, ap, subst, arith, true, List, Contains}
use Rattle.std.proofs.lemmas.Bool.{false≢true}
use Rattle.std.proofs.lemmas.List.{take_all}
use Rattle.study_board.specs.declared.men.Man.{Man}
use Rattle.study_board.specs.declared.men.Side.{Side}
use Rattle.study_board.specs.Men.{same_side}
use Rattle.study_board.proofs.EqualMen.{side_same}
use Rattle.study_moves.specs.declared.moves.Move.{Move}
use Rattle.study_moves.specs.Rules.{is_legal}
use Rattle.study_moves.specs.Unmoves.{IsQuiet}
use Rattle.study_retro.proofs.CaptureLemmas.{each_man}
use Rattle.study_retro.proofs.LeavingLemmas.{mover_is}
use Rattle.study_retro.proofs.captures.captures_and_promotions.Goals as goal
use Rattle.study_retro.proofs.captures.captures_and_promotions.Goals.{then-eq, else-eq}

pub loop-man-preserved : goal.loop-man-preserved
loop-man-preserved c =
    let q = c.args.at.now in
    let men = c.men-men.result.now in
    let man = c.man-item.result in
    let inv = c.loop-man.invariant in
    let side : c.eq.result ≡ same_side man.side q.to_move = c.eq.ensures ∙ side_same _ _ ∙ ap (λ (s : Side). same_side man.side s) c.to_move-side.ensures in
    elim c.if-eq.branch [
      | then-eq w ↦ rw w.list-is (record {
        few = (let f = inv.few in let g = w.add_conversions_of.ensures.few in omega (arith, f, g));
        only = w.add_conversions_of.ensures.only;
        all = each_man q c.men-men.ensures.valid men c.men-men.ensures.value c.loop-man.man-index _ man c.loop-man-test.true c.man-item.is
            (λ (k : Man). same_side k.side q.to_move ≡ true → (m : Move) → m.origin ≡ k.at → is_legal q m ≡ true → (IsQuiet q m → ⊥)
            → Contains w.add_conversions_of.new.list.items m)
            (λ k i s m o l f. w.add_conversions_of.ensures.kept m (inv.all k i s m o l f))
            (λ s m o l f. w.add_conversions_of.ensures.all m o l f);
      })
      | else-eq w ↦ rw w.list-is (record {
        few = (let f = inv.few in omega (arith, f));
        only = inv.only;
        all = each_man q c.men-men.ensures.valid men c.men-men.ensures.value c.loop-man.man-index _ man c.loop-man-test.true c.man-item.is
            (λ (k : Man). same_side k.side q.to_move ≡ true → (m : Move) → m.origin ≡ k.at → is_legal q m ≡ true → (IsQuiet q m → ⊥)
            → Contains c.loop-man.list.items m)
            inv.all (λ s. absurd (false≢true (sym w.if-eq.false ∙ side ∙ s)));
      })
    ]

pub returns-clause-all : goal.returns-clause-all
returns-clause-all c = λ m legal leaves.
    let q = c.args.at.now in
    let t = mover_is q c.requires m legal in
    let men = c.men-men.result.now in
    let whole = take_all c.loop-man.man-index men (let h = c.loop-man-test.false in omega (arith, h)) in
    c.loop-man.invariant.all t.0 (subst (λ (zs : List Man). Contains zs t.0) (sym (whole ∙ c.men-men.ensures.value)) t.1) t.3 m t.2 legal leaves

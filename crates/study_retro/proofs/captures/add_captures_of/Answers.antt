use Rattle.std.proofs.Common.{◌≡◌, ℕ, ◌<◌, ◌∙◌, sym, ap, subst, arith, true, length, List, ◌++◌, ◌∷◌, [], ◌&&◌, false, Contains}
use Rattle.std.specs.List.{list_any}
use Rattle.std.proofs.lemmas.List.{take_all}
use Rattle.std.proofs.lemmas.List.Elements.{All-contains}
use Rattle.study_board.specs.Men.{other_side, same_side}
use Rattle.study_board.specs.declared.men.Man.{Man}
use Rattle.study_board.specs.declared.men.Side.{Side}
use Rattle.study_board.specs.Sets.{has}
use Rattle.study_moves.specs.declared.moves.Move.{Move}
use Rattle.study_moves.specs.Rules.{is_legal}
use Rattle.study_moves.specs.AnyOrder.{is_safe_target}
use Rattle.study_retro.specs.Still.{GoesWithoutPromotion, move_to}
use Rattle.study_retro.proofs.CaptureLemmas.{more_kept, more_only, more_here, each_man, goes_legally, goes_not}
use Rattle.study_retro.proofs.StillChess.{takes_none}
use Rattle.study_retro.proofs.captures.add_captures_of.Goals as goal
use Rattle.study_retro.proofs.captures.add_captures_of.Goals.{then-goes_without_promotion, else-goes_without_promotion}

pub returns-then-not-has_man_in-clause-all : goal.returns-then-not-has_man_in-clause-all
returns-then-not-has_man_in-clause-all c = λ o among g.
    let men = c.men-men.result.now in
    let there : Contains men o = subst (λ (zs : List Man). Contains zs o) (sym c.men-men.ensures.value) among in
    let safe : is_safe_target men c.to_move-side.result c.args.man.now o.at ≡ true = rw (c.men-men.ensures.value, c.to_move-side.ensures) g.0 in
    let none : list_any (λ m. same_side m.side (other_side c.to_move-side.result) && has c.attacks.result m.at) men ≡ false =
    ap (λ (s : Side). list_any (λ m. same_side m.side s && has c.attacks.result m.at) men) (sym c.other.ensures) ∙ sym c.has_man_in.ensures
    ∙ c.if-not-has_man_in.true in
    absurd (takes_none men c.to_move-side.result c.args.man.now c.attacks.result c.attacks.ensures none o there
    (All-contains (λ (k : Man). k.at < 64) c.args.at.now.men o c.men-men.ensures.valid.on_board among) safe)

pub loop-other-preserved : goal.loop-other-preserved
loop-other-preserved c =
    let q = c.args.at.now in
    let man = c.args.man.now in
    let men = c.men-men.result.now in
    let o = c.other-item.result in
    let inv = c.loop-other.invariant in
    let xs = c.loop-other.list.items in
    let word : (x : ℕ) → x < 64 → has c.safe_targets-safe.result x ≡ is_safe_target men q.to_move man x =
    λ x l. c.safe_targets-safe.ensures x l ∙ ap (λ (s : Side). is_safe_target men s man x) c.to_move-side.ensures in
    elim c.if-goes_without_promotion.branch [
      | then-goes_without_promotion w ↦ rw w.list-is (
          let more : w.push.new.self.items ≡ xs ++ move_to man o.at ∷ [] =
          w.push.ensures.items ∙ ap (λ (m : Move). xs ++ m ∷ []) w.move_to.ensures in
          let legal = goes_legally q c.men-men.ensures.valid men c.men-men.ensures.value c.loop-other.other-index _ o c.loop-other-test.true c.other-item.is
          c.requires.tells man c.requires.man c.requires.side c.safe_targets-safe.result word c.goes_without_promotion.result c.goes_without_promotion.ensures
          w.if-goes_without_promotion.true in
          record {
            few = (let f = inv.few in omega (arith, f, ap length more));
            only = more_only xs w.push.new.self.items (move_to man o.at) more (λ m. is_legal q m ≡ true) inv.only legal;
            kept = λ m k. more_kept xs w.push.new.self.items (move_to man o.at) more m (inv.kept m k);
            all = each_man q c.men-men.ensures.valid men c.men-men.ensures.value c.loop-other.other-index _ o c.loop-other-test.true c.other-item.is
                (λ (k : Man). GoesWithoutPromotion q man k.at → Contains w.push.new.self.items (move_to man k.at))
                (λ k i g. more_kept xs w.push.new.self.items (move_to man o.at) more (move_to man k.at) (inv.all k i g))
                (λ g. more_here xs w.push.new.self.items (move_to man o.at) more);
          })
      | else-goes_without_promotion w ↦ rw w.list-is (
          let none = goes_not q c.men-men.ensures.valid men c.men-men.ensures.value c.loop-other.other-index _ o c.loop-other-test.true c.other-item.is
          c.requires.tells man c.requires.man c.requires.side c.safe_targets-safe.result word c.goes_without_promotion.result c.goes_without_promotion.ensures
          w.if-goes_without_promotion.false in
          record {
            few = (let f = inv.few in omega (arith, f));
            only = inv.only;
            kept = inv.kept;
            all = each_man q c.men-men.ensures.valid men c.men-men.ensures.value c.loop-other.other-index _ o c.loop-other-test.true c.other-item.is
                (λ (k : Man). GoesWithoutPromotion q man k.at → Contains xs (move_to man k.at)) inv.all (λ g. absurd (none g));
          })
    ]

pub returns-clause-all : goal.returns-clause-all
returns-clause-all c = λ o i g.
    let men = c.men-men.result.now in
    let whole = take_all c.loop-other.other-index men (let h = c.loop-other-test.false in omega (arith, h)) in
    c.loop-other.invariant.all o (subst (λ (zs : List Man). Contains zs o) (sym (whole ∙ c.men-men.ensures.value)) i) g

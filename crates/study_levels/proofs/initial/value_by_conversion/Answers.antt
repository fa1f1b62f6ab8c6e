use Rattle.std.proofs.Common.{◌≡◌, ℕ, Bool, true, false, List, [], Option, slice_index_or, Contains, sym, ap, subst, ◌∙◌, inl, inr}
use Rattle.std.proofs.lemmas.List.{take_all}
use Rattle.std.proofs.lemmas.List.Elements.{Contains-get_or}
use Rattle.study_table.specs.Forced.{GivesOutside}
use Rattle.study_moves.specs.declared.moves.Move.{Move}
use Rattle.study_values.specs.declared.value.Value.{Value}
use Rattle.study_levels.specs.declared.best_replies.BestReplies.{BestReplies}
use Rattle.study_levels.specs.Numbered.{leads_in}
use Rattle.study_table.proofs.ClassLemmas.{true_or_false}
use Rattle.study_levels.proofs.DueTally.{IsTallyOf, IsTallyOf-empty, IsTallyOf-in, IsTallyOf-out, GivesOutside-given_by}
use Rattle.study_levels.proofs.initial.value_by_conversion.Goals as goal
use Rattle.study_levels.proofs.initial.value_by_conversion.Goals.{then-may_convert, else-may_convert}

pub loop-by-init : goal.loop-by-init
loop-by-init g c =
    let Ok : Move → Type 0 = λ m. (g.G.Game.numbered c.args.game.now).home ((g.G.Game.numbered c.args.game.now).after c.args.at.now m) ≡ false in
    let f : Move → Value = λ m. (g.G.Game.numbered c.args.game.now).outside ((g.G.Game.numbered c.args.game.now).after c.args.at.now m) in
    let P : Option ℕ × Option ℕ × Bool → Type 0 = λ x. IsTallyOf Ok f [] x.0 x.1 x.2 in
    subst P (λ j. (sym c.new-replies.ensures.lost j, sym c.new-replies.ensures.won j, sym c.new-replies.ensures.drawn j)) (IsTallyOf-empty Ok f)

pub with_conversion-replies-requires : goal.with_conversion-replies-requires
with_conversion-replies-requires g c =
    let ms = c.as_slice-by-items.result.now in
    let d = c.by-item.result in
    let m : Move = slice_index_or ms c.loop-by.by-index d in
    let there = subst (λ (xs : List Move). Contains xs m) c.as_slice-by-items.ensures.value (Contains-get_or ms c.loop-by.by-index d c.loop-by-test.true) in
    let here = subst (λ (x : Move). Contains c.conversions-moves.result.items x) (sym c.by-item.is) there in
    c.requires.laws.closed c.args.at.now c.played-to.result c.requires.known c.requires.home (
      d,
      c.conversions-moves.ensures.only d here,
      sym c.played-to.ensures,
    )

pub loop-by-preserved : goal.loop-by-preserved
loop-by-preserved g c =
    let Ok : Move → Type 0 = λ m. (g.G.Game.numbered c.args.game.now).home ((g.G.Game.numbered c.args.game.now).after c.args.at.now m) ≡ false in
    let f : Move → Value = λ m. (g.G.Game.numbered c.args.game.now).outside ((g.G.Game.numbered c.args.game.now).after c.args.at.now m) in
    let ms = c.as_slice-by-items.result.now in
    let d = c.by-item.result in
    let item : (g.G.Game.numbered c.args.game.now).after c.args.at.now (slice_index_or ms c.loop-by.by-index d)
    ≡ (g.G.Game.numbered c.args.game.now).after c.args.at.now d =
    ap ((g.G.Game.numbered c.args.game.now).after c.args.at.now) (sym c.by-item.is) in
    elim c.if-may_convert.branch [
      | then-may_convert w ↦ (
          let e = w.with_conversion-replies.ensures in
          let to = w.played-to.ensures in
          let is = w.replies-is in
          elim (true_or_false ((g.G.Game.numbered c.args.game.now).home w.played-to.result)) [
            | inl h ↦ IsTallyOf-out Ok f ms c.loop-by.by-index d _ _ _ _ _ _ c.loop-by-test.true
                (λ o. let no : true ≡ false = sym h ∙ (ap (g.G.Game.numbered c.args.game.now).home (to ∙ sym item) ∙ o) in cc) c.loop-by.invariant
                (ap (λ (t : BestReplies). t.lost) is ∙ e.in_lost h) (ap (λ (t : BestReplies). t.won) is ∙ e.in_won h) (ap (λ (t : BestReplies). t.drawn) is
                ∙ e.in_drawn h)
            | inr h ↦ IsTallyOf-in Ok f ms c.loop-by.by-index d ((g.G.Game.numbered c.args.game.now).outside w.played-to.result) _ _ _ _ _ _ c.loop-by-test.true
                (ap (g.G.Game.numbered c.args.game.now).home (item ∙ sym to) ∙ h)
                (ap (g.G.Game.numbered c.args.game.now).outside (item ∙ sym to)) c.loop-by.invariant
                (ap (λ (t : BestReplies). t.lost) is ∙ e.out_lost h) (ap (λ (t : BestReplies). t.won) is ∙ e.out_won h) (ap (λ (t : BestReplies). t.drawn) is
                ∙ e.out_drawn h)
          ])
      | else-may_convert w ↦ (
          let is = w.replies-is in
          IsTallyOf-out Ok f ms c.loop-by.by-index d _ _ _ _ _ _ c.loop-by-test.true
          (λ o. let h = c.may_convert.ensures w.if-may_convert.false in
          let no : true ≡ false = sym h ∙ (ap (g.G.Game.numbered c.args.game.now).home (sym item) ∙ o) in cc)
          c.loop-by.invariant
          (ap (λ (t : BestReplies). t.lost) is) (ap (λ (t : BestReplies). t.won) is) (ap (λ (t : BestReplies). t.drawn) is))
    ]

pub returns : goal.returns
returns g c =
    let Ok : Move → Type 0 = λ m. (g.G.Game.numbered c.args.game.now).home ((g.G.Game.numbered c.args.game.now).after c.args.at.now m) ≡ false in
    let f : Move → Value = λ m. (g.G.Game.numbered c.args.game.now).outside ((g.G.Game.numbered c.args.game.now).after c.args.at.now m) in
    let ms = c.as_slice-by-items.result.now in
    let same = c.as_slice-by-items.ensures.value in
    let t =
    subst (λ (xs : List Move). IsTallyOf Ok f xs c.loop-by.replies.lost c.loop-by.replies.won c.loop-by.replies.drawn)
    (take_all c.loop-by.by-index ms c.loop-by-test.false) c.loop-by.invariant in
    let is =
    GivesOutside-given_by (g.G.Game.numbered c.args.game.now).legal (g.G.Game.numbered c.args.game.now).after
    (g.G.Game.numbered c.args.game.now).home (g.G.Game.numbered c.args.game.now).outside c.args.at.now ms
    (λ m l o. subst (λ (xs : List Move). Contains xs m) (sym same) (c.conversions-moves.ensures.all m l o))
    (λ m h. c.conversions-moves.ensures.only m (subst (λ (xs : List Move). Contains xs m) same h))
    c.loop-by.replies.lost c.loop-by.replies.won c.loop-by.replies.drawn t in
    let gives =
    subst (λ (v : Value). GivesOutside (leads_in (g.G.Game.numbered c.args.game.now))
    (g.G.Game.numbered c.args.game.now).home (g.G.Game.numbered c.args.game.now).outside c.args.at.now v)
    (sym c.value.ensures) is in
    gives

use Rattle.std.proofs.Common.{◌≡◌, ℕ, ◌≤◌, true, false, List, slice_index_or, Contains, refl, sym, ◌∙◌, ap, subst}
use Rattle.std.proofs.lemmas.List.{take_all}
use Rattle.std.proofs.lemmas.List.Elements.{Contains-get_or}
use Rattle.study_moves.specs.declared.moves.Move.{Move}
use Rattle.study_values.specs.declared.value.Value.TheVariants.{Win}
use Rattle.study_levels.specs.Numbered.{label_by}
use Rattle.study_levels.proofs.CellsLemmas.{each-more, lost_listed}
use Rattle.study_levels.proofs.propagate.is_lost.Goals as goal

pub returns-then-not-is_won : goal.returns-then-not-is_won
returns-then-not-is_won g c =
    let ms = c.as_slice-by-items.result.now in
    let d = c.by-item.result in
    let m : Move = slice_index_or ms c.loop-by.by-index d in
    let there = subst (λ (xs : List Move). Contains xs m) c.as_slice-by-items.ensures.value (Contains-get_or ms c.loop-by.by-index d c.loop-by-test.true) in
    let here = subst (λ (x : Move). Contains c.moves-moves.result.items x) (sym c.by-item.is) there in (
      λ e. absurd (let no : false ≡ true = e in cc),
      λ h. let w = h.each ((g.G.Game.numbered c.args.game.now).after c.args.at.now d) (d, c.moves-moves.ensures.only d here, refl) in
          absurd (let y = c.is_won.ensures.1 (w.0, c.label_after.ensures.value ∙ w.1, w.2) in
          let n = c.if-not-is_won.true in let no : true ≡ false = sym y ∙ n in cc),
    )

pub loop-by-preserved : goal.loop-by-preserved
loop-by-preserved g c =
    let ms = c.as_slice-by-items.result.now in
    let d = c.by-item.result in
    let m : Move = slice_index_or ms c.loop-by.by-index d in
    let labels = label_by (g.G.Game.numbered c.args.game.now) c.args.cells.now in
    let w = c.is_won.ensures.0 c.if-not-is_won.false in
    each-more (λ (x : Move). (n : ℕ) × (labels ((g.G.Game.numbered c.args.game.now).after c.args.at.now x) ≡ Win n)
    × (n ≤ c.args.level)) ms c.loop-by.by-index d c.loop-by-test.true c.loop-by.invariant (
      w.0,
      ap (λ (x : Move). labels ((g.G.Game.numbered c.args.game.now).after c.args.at.now x)) (sym c.by-item.is)
          ∙ (sym c.label_after.ensures.value ∙ w.1),
      w.2,
    )

pub returns : goal.returns
returns g c =
    let labels = label_by (g.G.Game.numbered c.args.game.now) c.args.cells.now in
    let ms = c.as_slice-by-items.result.now in
    let same = c.as_slice-by-items.ensures.value in
    let whole = take_all c.loop-by.by-index ms c.loop-by-test.false in
    let Won : Move → Type 0 = λ m. (n : ℕ) × (labels ((g.G.Game.numbered c.args.game.now).after c.args.at.now m) ≡ Win n) × (n ≤ c.args.level) in
    let each : (m : Move) → Contains ms m → Won m = subst (λ (xs : List Move). (m : Move) → Contains xs m → Won m) whole c.loop-by.invariant in
    lost_listed (g.G.Game.numbered c.args.game.now).legal (g.G.Game.numbered c.args.game.now).after labels
    c.args.level c.args.at.now c.moves-moves.result.items c.moves-moves.ensures.all c.moves-moves.ensures.only
    (subst (λ (xs : List Move). (m : Move) → Contains xs m → Won m) same each) c.is_empty.result c.is_empty.ensures

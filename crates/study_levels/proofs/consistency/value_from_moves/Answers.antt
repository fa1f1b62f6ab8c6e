use Rattle.std.proofs.Common.{sym, ap, subst, ◌∙◌, List, Contains}
use Rattle.std.proofs.lemmas.List.{take_all}
use Rattle.study_table.specs.Forced.{GivesValue}
use Rattle.study_moves.specs.declared.moves.Move.{Move}
use Rattle.study_values.specs.declared.value.Value.{Value}
use Rattle.study_levels.specs.Numbered.{label_by, leads_in}
use Rattle.study_levels.proofs.TallyLemmas.{IsTally, IsTally-take, Gives-given_by}
use Rattle.study_levels.proofs.consistency.value_from_moves.Goals as goal

pub loop-by-preserved : goal.loop-by-preserved
loop-by-preserved g c =
    let labels = label_by (g.G.Game.numbered c.args.game.now) c.args.cells.now in
    let value_after : Move → Value = λ m. labels ((g.G.Game.numbered c.args.game.now).after c.args.at.now m) in
    IsTally-take value_after c.as_slice-by-items.result.now c.loop-by.by-index c.by-item.result c.label_after-value.result
    _ _ _ _ _ _
    c.loop-by-test.true (ap value_after (sym c.by-item.is) ∙ sym c.label_after-value.ensures.value) c.loop-by.invariant c.with-replies.ensures.lost
    c.with-replies.ensures.won
    c.with-replies.ensures.drawn

pub returns : goal.returns
returns g c =
    let labels = label_by (g.G.Game.numbered c.args.game.now) c.args.cells.now in
    let ms = c.as_slice-by-items.result.now in
    let same = c.as_slice-by-items.ensures.value in
    let t =
    subst (λ (xs : List Move). IsTally (λ m. labels ((g.G.Game.numbered c.args.game.now).after c.args.at.now m))
    xs c.loop-by.replies.lost c.loop-by.replies.won c.loop-by.replies.drawn)
    (take_all c.loop-by.by-index ms c.loop-by-test.false) c.loop-by.invariant in
    let is = Gives-given_by (g.G.Game.numbered c.args.game.now).legal (g.G.Game.numbered c.args.game.now).after
    (g.G.Game.numbered c.args.game.now).mate labels c.args.at.now ms
    (λ m l. subst (λ (xs : List Move). Contains xs m) (sym same) (c.moves-moves.ensures.all m l))
    (λ m h. c.moves-moves.ensures.only m (subst (λ (xs : List Move). Contains xs m) same h))
    c.is_mate.result c.loop-by.replies.lost c.loop-by.replies.won c.loop-by.replies.drawn c.is_mate.ensures t in
    subst
    (λ (v : Value). GivesValue (leads_in (g.G.Game.numbered c.args.game.now)) (g.G.Game.numbered c.args.game.now).mate
    labels c.args.at.now v) (sym c.value.ensures) is

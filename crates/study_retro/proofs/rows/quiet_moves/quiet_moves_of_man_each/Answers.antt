use Rattle.std.proofs.Common.{◌≡◌, ℕ, ◌+◌, ◌*◌, ◌++◌, ◌∷◌, [], List, Contains, Some, refl, sym, ◌∙◌, ap, subst}
use Rattle.std.proofs.lemmas.Bool.{not-false, not-true}
use Rattle.std.proofs.lemmas.List.Elements.{Contains-append_left}
use Rattle.study_board.specs.declared.men.Man.{Man}
use Rattle.study_board.proofs.SquareLists.{first-of, none-of-empty}
use Rattle.study_material.specs.declared.class.Class.{Class}
use Rattle.study_index.specs.Computed.{position_numbered}
use Rattle.study_retro.specs.Predecessors.{AreEncoded}
use Rattle.study_retro.specs.ClassGame.{class_game}
use Rattle.study_levels.specs.Numbered.{NoLossBy}
use Rattle.study_retro.specs.Still.{HasMove, on_square}
use Rattle.study_retro.proofs.SquaresKept.{first-as, has-if, kept-none, kept-if}
use Rattle.study_retro.proofs.rows.quiet_moves.quiet_moves_of_man_each.Goals as goal

pub loop-square-init : goal.loop-square-init
loop-square-init g c = record {
  kept = kept-none _ _ _ _ _ c.into_iter-square-iterator.ensures.into_iter_gives c.empty.ensures;
  some = c.requires.some;
}

pub quiet_moves_of-moves-requires-clause-numbered : goal.quiet_moves_of-moves-requires-clause-numbered
quiet_moves_of-moves-requires-clause-numbered g c =
    let y = c.from.result in
    let f = first-as _ _ _ y c.in-Some.ensures.steps (c.from.ensures ∙ c.number.ensures.value) in
    c.requires.numbered y f.inside (c.loop-square.invariant.kept.among y f.inside f.there)

pub quiet_moves_of-moves-requires-clause-man : goal.quiet_moves_of-moves-requires-clause-man
quiet_moves_of-moves-requires-clause-man g c =
    let row = c.args.row.now in
    let y = c.from.result in
    let f = first-as _ _ _ y c.in-Some.ensures.steps (c.from.ensures ∙ c.number.ensures.value) in
    let encodes = subst (λ (d : Class). AreEncoded d (64 * row.number + y) (row.others.items ++ on_square row.last y ∷ []) row.to_move) c.requires.class
    (row.encoded y f.inside) in
    subst (λ (xs : List Man). Contains xs c.args.man.now) (encodes.0 ∙ sym c.decode_men-setup.ensures.men)
    (Contains-append_left row.others.items (on_square row.last y ∷ []) c.args.man.now c.requires.man)

pub loop-square-preserved : goal.loop-square-preserved
loop-square-preserved g c =
    let f = first-of _ _ _ c.in-Some.ensures.steps in
    let t = c.in-Some.square in
    let same : c.from.result ≡ t = c.from.ensures ∙ c.number.ensures.value in
    let inv = c.loop-square.invariant in
    let moves = c.quiet_moves_of-moves.ensures in
    let class = c.args.game.now.class in
    let row = c.args.row.now in
    let number : 64 * row.number + c.from.result ≡ 64 * row.number + t = ap (λ (n : ℕ). 64 * row.number + n) same in
    record {
      kept = kept-if _ _ _ _ _ inv.kept _ _ f t refl _ _ c.with-seen.ensures.losing
          (λ e q at. moves.no (not-true _ e) q (ap (λ (n : ℕ). position_numbered class n) number ∙ at))
          (λ e. subst (λ (n : ℕ). NoLossBy (class_game class c.args.game.now.tables.now) c.args.cells.now c.args.level n) number
          (moves.yes (not-false _ e)));
      some = λ y q on e at. has-if c.loop-square.seen.some t _ _ c.with-seen.ensures.some
          (λ (x : ℕ). position_numbered class (64 * row.number + x) ≡ Some q → HasMove q) (λ x in64 there. inv.some x q in64 there)
          (λ some here. moves.some some q (ap (λ (n : ℕ). position_numbered class n) number ∙ here)) y on e at;
    }

pub returns-clause-only : goal.returns-clause-only
returns-clause-only g c = λ y on e. (c.loop-square.invariant.kept.keeps y on e).0

pub returns-clause-yes : goal.returns-clause-yes
returns-clause-yes g c = λ y q on e at. (c.loop-square.invariant.kept.keeps y on e).1 q at

pub returns-clause-no : goal.returns-clause-no
returns-clause-no g c = λ y on e n. c.loop-square.invariant.kept.others y on e (none-of-empty _ c.in-None.ensures.steps.0 y on) n

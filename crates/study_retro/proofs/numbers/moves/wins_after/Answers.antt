use Rattle.std.proofs.Common.{◌≡◌, Some, refl, sym, ◌∙◌, ap, subst}
use Rattle.std.proofs.lemmas.Bool.{false≢true}
use Rattle.study_board.specs.Position.{Position}
use Rattle.study_moves.specs.declared.moves.Move.{Move}
use Rattle.study_moves.specs.Rules.{after}
use Rattle.study_index.specs.Computed.{position_numbered}
use Rattle.study_retro.specs.ClassGame.{class_game}
use Rattle.study_levels.specs.Numbered.{LosesBy, label_by}
use Rattle.study_retro.specs.Still.{IsWonAfter, move_to}
use Rattle.study_retro.proofs.BackLemmas.{one_position}
use Rattle.study_retro.proofs.numbers.moves.wins_after.Goals as goal

pub returns-clause-yes : goal.returns-clause-yes
returns-clause-yes g c = λ t p e.
    let game = class_game c.args.game.now.class c.args.game.now.tables.now in
    let at = c.in-Some.at in
    let m : Move = move_to c.args.man.now c.args.target in
    let here : position_numbered c.args.game.now.class c.args.number ≡ Some at = sym c.decode.ensures.value ∙ c.in-Some.is in
    let to : c.played-to.result ≡ after at m = c.played-to.ensures.value ∙ ap (λ (x : Move). after at x) c.move_to.ensures in
    let w = c.is_won.ensures.0 t in
    subst (λ (r : Position). IsWonAfter game c.args.cells.now c.args.level r m) (sym (one_position c.args.game.now.class c.args.number at here p e))
    (w.0, sym (c.label.ensures.value ∙ ap (λ (r : Position). label_by game c.args.cells.now r) to) ∙ w.1, w.2)

pub returns-clause-no : goal.returns-clause-no
returns-clause-no g c = λ f p e h.
    let game = class_game c.args.game.now.class c.args.game.now.tables.now in
    let at = c.in-Some.at in
    let m : Move = move_to c.args.man.now c.args.target in
    let here : position_numbered c.args.game.now.class c.args.number ≡ Some at = sym c.decode.ensures.value ∙ c.in-Some.is in
    let to : c.played-to.result ≡ after at m = c.played-to.ensures.value ∙ ap (λ (x : Move). after at x) c.move_to.ensures in
    let l = subst (λ (r : Position). LosesBy game c.args.cells.now c.args.level r) (one_position c.args.game.now.class c.args.number at here p e) h in
    let t = l.each (after at m) (m, c.requires.legal at here, refl) in
    false≢true (sym f ∙ c.is_won.ensures.1 (t.0, c.label.ensures.value ∙ ap (λ (r : Position). label_by game c.args.cells.now r) to ∙ t.1, t.2))

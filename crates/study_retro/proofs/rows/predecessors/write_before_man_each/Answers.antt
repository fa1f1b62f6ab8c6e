use Rattle.std.proofs.Common.{◌∷◌, [], List, Contains, sym, ◌∙◌, subst}
use Rattle.std.proofs.lemmas.List.Elements.{Contains-append_left}
use Rattle.study_board.specs.declared.men.Man.{Man}
use Rattle.study_board.proofs.SquareLists.{none-of-empty}
use Rattle.study_retro.specs.Still.{on_square}
use Rattle.study_retro.proofs.RowSets.{set-none, set-more}
use Rattle.study_retro.proofs.SquaresKept.{first-as}
use Rattle.study_retro.proofs.rows.predecessors.write_before_man_each.Goals as goal

pub loop-square-init : goal.loop-square-init
loop-square-init g c = record { size = c.requires.cells; set = set-none _ _ _ _ _ _ c.into_iter-square-iterator.ensures.into_iter_gives }

pub write_before_man-more-requires-clause-numbered : goal.write_before_man-more-requires-clause-numbered
write_before_man-more-requires-clause-numbered g c =
    let y = c.from.result in
    let f = first-as _ _ _ y c.in-Some.ensures.steps (c.from.ensures ∙ c.number.ensures.value) in
    c.requires.numbered y f.inside (c.loop-square.invariant.set.among y f.inside f.there)

pub write_before_man-more-requires-clause-man : goal.write_before_man-more-requires-clause-man
write_before_man-more-requires-clause-man g c =
    let row = c.args.row.now in
    let y = c.from.result in
    let f = first-as _ _ _ y c.in-Some.ensures.steps (c.from.ensures ∙ c.number.ensures.value) in
    subst (λ (xs : List Man). Contains xs c.args.man.now) ((row.encoded y f.inside).0 ∙ sym c.decode_men-setup.ensures.men)
    (Contains-append_left row.others.items (on_square row.last y ∷ []) c.args.man.now c.requires.man)

pub loop-square-preserved : goal.loop-square-preserved
loop-square-preserved g c =
    let f = first-as _ _ _ c.from.result c.in-Some.ensures.steps (c.from.ensures ∙ c.number.ensures.value) in
    let inv = c.loop-square.invariant in
    record {
      size = c.write_before_man-more.ensures.size ∙ inv.size;
      set = set-more _ _ _ _ _ _ _ f c.requires.cell _ _ _ inv.set c.write_before_man-more.ensures.rise c.write_before_man-more.ensures.done;
    }

pub returns-clause-done : goal.returns-clause-done
returns-clause-done g c = λ n y on e w. c.loop-square.invariant.set.done n y on e (none-of-empty _ c.in-None.ensures.steps.0 y on) w

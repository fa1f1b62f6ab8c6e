use Rattle.std.proofs.Common.{◌≡◌, ◌+◌, ◌*◌, ℕ, List, Contains, sym, ◌∙◌, subst}
use Rattle.std.proofs.lemmas.List.Elements.{Contains-push}
use Rattle.study_board.specs.declared.men.Man.{Man}
use Rattle.study_board.proofs.SquareLists.{none-of-empty}
use Rattle.study_retro.specs.Predecessors.{IsBeforeBy}
use Rattle.study_levels.specs.Propagation.{AreSet}
use Rattle.study_retro.specs.RowLevels.{IsBeforeRow}
use Rattle.study_retro.specs.Still.{on_square}
use Rattle.study_retro.proofs.BackLemmas.{set-why}
use Rattle.study_retro.proofs.RowSets.{ForSome, set-none, set-more}
use Rattle.study_retro.proofs.SquaresKept.{first-as}
use Rattle.study_retro.proofs.rows.predecessors.write_before_last_each.Goals as goal

pub loop-square-init : goal.loop-square-init
loop-square-init g c = record { size = c.requires.cells; set = set-none _ _ _ _ _ _ c.into_iter-square-iterator.ensures.into_iter_gives }

pub write_before_man-more-requires-clause-numbered : goal.write_before_man-more-requires-clause-numbered
write_before_man-more-requires-clause-numbered g c =
    let y = c.from.result in
    let f = first-as _ _ _ y c.in-Some.ensures.steps (c.from.ensures ∙ c.number.ensures.value) in
    c.requires.numbered y f.inside (c.loop-square.invariant.set.among y f.inside f.there)

pub write_before_man-more-requires-clause-man : goal.write_before_man-more-requires-clause-man
write_before_man-more-requires-clause-man g c =
    let row = c.args.row.now in
    let y = c.from.result in
    let same : y ≡ c.in-Some.square = c.from.ensures ∙ c.number.ensures.value in
    let f = first-as _ _ _ y c.in-Some.ensures.steps same in
    subst (λ (x : ℕ). Contains c.decode_men-setup.result.men.items (on_square row.last x)) same
    (subst (λ (xs : List Man). Contains xs (on_square row.last y)) ((row.encoded y f.inside).0 ∙ sym c.decode_men-setup.ensures.men)
    (Contains-push row.others.items (on_square row.last y)))

pub loop-square-preserved : goal.loop-square-preserved
loop-square-preserved g c =
    let row = c.args.row.now in
    let inv = c.loop-square.invariant in
    let y = c.from.result in
    let same : y ≡ c.in-Some.square = c.from.ensures ∙ c.number.ensures.value in
    let f = first-as _ _ _ y c.in-Some.ensures.steps same in
    let cell = c.args.change.cell in
    let over = c.args.change.over in
    let new = c.write_before_man-more.new.cells in
    record {
      size = c.write_before_man-more.ensures.size ∙ inv.size;
      set = set-more _ _ _ _ _ _ _ f c.requires.cell _ _ _ inv.set
          (subst (λ (x : ℕ). AreSet (IsBeforeBy row.class (64 * row.number + y) (on_square row.last x)) cell over c.loop-square.cells new) (sym same)
          c.write_before_man-more.ensures.rise)
          (λ n w. c.write_before_man-more.ensures.done n (subst (λ (x : ℕ). IsBeforeBy row.class (64 * row.number + y) (on_square row.last x) n) same w));
    }

pub returns-clause-rise : goal.returns-clause-rise
returns-clause-rise g c =
    let row = c.args.row.now in
    let Why : ℕ → ℕ → Type 0 = λ y n. IsBeforeBy row.class (64 * row.number + y) (on_square row.last y) n in
    set-why c.args.change.cell c.args.change.over (ForSome c.args.decided Why c.args.change.cell c.args.change.over)
    (IsBeforeRow row.class row.number c.args.decided) c.args.cells.now c.loop-square.cells
    (λ n w. (w.0, w.1, w.2, (on_square row.last w.0, w.3))) c.loop-square.invariant.set.rise

pub returns-clause-done : goal.returns-clause-done
returns-clause-done g c = λ n y on e w. c.loop-square.invariant.set.done n y on e (none-of-empty _ c.in-None.ensures.steps.0 y on) w

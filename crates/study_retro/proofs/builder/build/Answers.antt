use Rattle.std.proofs.Common.{◌≡◌, ◌∙◌, ℕ, Bool, true, false, not, List, refl, sym, ap, subst}
use Rattle.study_table.specs.Table.{Table}
use Rattle.study_retro.specs.Report.{IsGreatest, win_of, loss_of}
use Rattle.study_table.proofs.ChessClass.{chess_class}
use Rattle.study_table.proofs.SetLemmas.{first_missing-none}
use Rattle.study_table.proofs.SoundLemmas.{outside_right, table_right, far-from}
use Rattle.study_retro.proofs.builder.build.Goals as goal

fits_where : (b : Bool) → not b ≡ false → b ≡ true
fits_where true e = refl
fits_where false e = sym e

unfit_where : (b : Bool) → not b ≡ true → b ≡ false
unfit_where true e = sym e
unfit_where false e = refl

pub invariant_of-game : goal.invariant_of-game
invariant_of-game g c = record {
  ready = first_missing-none c.args.tables.now _ (sym c.first_missing.ensures ∙ c.in_default.is);
  closed = c.table-held.ensures.closed;
}

pub solve_cells-filled-requires-clause-laws : goal.solve_cells-filled-requires-clause-laws
solve_cells-filled-requires-clause-laws g c = chess_class c.args.class c.args.tables.now c.table-held.ensures.closed

pub returns-then-not-filled-clause-far : goal.returns-then-not-filled-clause-far
returns-then-not-filled-clause-far g c = λ needs is.
    let held = c.args.tables.now in
    let ready = first_missing-none held _ (sym c.first_missing.ensures ∙ c.in_default.is) in
    let outer = outside_right held c.args.class c.table-held.ensures.closed ready needs in
    far-from c.args.class (c.solve_cells-filled.ensures.far outer (unfit_where c.solve_cells-filled.result.fits c.if-not-filled.true))

pub returns-clause-right : goal.returns-clause-right
returns-clause-right g c = λ needs.
    let held = c.args.tables.now in
    let ready = first_missing-none held _ (sym c.first_missing.ensures ∙ c.in_default.is) in
    let outer = outside_right held c.args.class c.table-held.ensures.closed ready needs in
    let right = c.solve_cells-filled.ensures.right outer (fits_where c.solve_cells-filled.result.fits c.if-not-filled.false) in
    table_right c.from_cells.result c.args.class c.solve_cells-filled.new.cells (sym (ap (λ (t : Table). t.class) c.from_cells.ensures))
    (sym (ap (λ (t : Table). t.cells) c.from_cells.ensures ∙ c.into_cells-cells.ensures.value)) right

pub returns-clause-deepest_win : goal.returns-clause-deepest_win
returns-clause-deepest_win g c =
    let same = c.as_slice.ensures.value ∙ sym (ap (λ (t : Table). t.cells) c.from_cells.ensures) in
    subst (λ (xs : List ℕ). IsGreatest win_of xs c.greatest_distances-deepest.result.win) same c.greatest_distances-deepest.ensures.win

pub returns-clause-deepest_loss : goal.returns-clause-deepest_loss
returns-clause-deepest_loss g c =
    let same = c.as_slice.ensures.value ∙ sym (ap (λ (t : Table). t.cells) c.from_cells.ensures) in
    subst (λ (xs : List ℕ). IsGreatest loss_of xs c.greatest_distances-deepest.result.loss) same c.greatest_distances-deepest.ensures.loss

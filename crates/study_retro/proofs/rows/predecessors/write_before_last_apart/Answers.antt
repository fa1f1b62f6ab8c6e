use Rattle.std.proofs.Common.{ℕ, inl, inr, refl, sym, ◌∙◌}
use Rattle.std.proofs.lemmas.Bool.{and_parts, cases_Bool, not-true}
use Rattle.study_board.specs.Sets.{has}
use Rattle.study_retro.specs.RowLevels.{IsBeforeRow}
use Rattle.study_retro.proofs.BackLemmas.{set-then, set-kept, set-why}
use Rattle.study_retro.proofs.rows.predecessors.write_before_last_apart.Goals as goal

pub write_before_last_each-count-requires-clause-numbered : goal.write_before_last_each-count-requires-clause-numbered
write_before_last_each-count-requires-clause-numbered g c = λ y on e.
    c.requires.numbered y on (and_parts _ _ (sym (c.intersection.ensures y) ∙ e)).0

pub write_before_last_at_once-requires-clause-numbered : goal.write_before_last_at_once-requires-clause-numbered
write_before_last_at_once-requires-clause-numbered g c = λ y on e.
    c.requires.numbered y on (and_parts _ _ (sym (c.without-plain.ensures y on) ∙ e)).0

pub write_before_last_at_once-requires-clause-plainly : goal.write_before_last_at_once-requires-clause-plainly
write_before_last_at_once-requires-clause-plainly g c = λ y on e.
    c.passing_squares-passing.ensures y on (not-true _ (and_parts (has c.args.decided y) _ (sym (c.without-plain.ensures y on) ∙ e)).1)

pub write_before_last_at_once-requires-clause-cells : goal.write_before_last_at_once-requires-clause-cells
write_before_last_at_once-requires-clause-cells g c = c.write_before_last_each-count.ensures.size ∙ c.requires.cells

pub returns-clause-rise : goal.returns-clause-rise
returns-clause-rise g c =
    let row = c.args.row.now in
    let cell = c.args.change.cell in
    let over = c.args.change.over in
    let mid = c.write_before_last_each-count.new.cells in
    let new = c.write_before_last_at_once.new.cells in
    let Why : ℕ → Type 0 = IsBeforeRow row.class row.number c.args.decided in
    set-then cell over Why c.args.cells.now mid new
    (set-why cell over (IsBeforeRow row.class row.number c.intersection.result) Why c.args.cells.now mid
    (λ n w. (w.0, w.1, (and_parts _ _ (sym (c.intersection.ensures w.0) ∙ w.2)).0, w.3)) c.write_before_last_each-count.ensures.rise)
    (set-why cell over (IsBeforeRow row.class row.number c.without-plain.result) Why mid new
    (λ n w. (w.0, w.1, (and_parts _ _ (sym (c.without-plain.ensures w.0 w.1) ∙ w.2)).0, w.3)) c.write_before_last_at_once.ensures.rise)

pub returns-clause-done : goal.returns-clause-done
returns-clause-done g c = λ n y on e b.
    let row = c.args.row.now in
    elim (cases_Bool (has c.passing_squares-passing.result y)) [
      | inl p ↦
          set-kept c.args.change.cell c.args.change.over (IsBeforeRow row.class row.number c.without-plain.result)
          c.write_before_last_each-count.new.cells c.write_before_last_at_once.new.cells c.write_before_last_at_once.ensures.rise c.requires.cell n
          (c.write_before_last_each-count.ensures.done n y on (c.intersection.ensures y ∙ rw (e, p) refl) b)
      | inr p ↦ c.write_before_last_at_once.ensures.done n y on (c.without-plain.ensures y on ∙ rw (e, p) refl) b
    ]

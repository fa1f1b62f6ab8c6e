use Rattle.std.proofs.Common.{◌≢◌, ℕ, ◌<◌, List, slice_index, Contains, arith, sym, subst}
use Rattle.std.proofs.lemmas.List.Elements.{Contains-get_or}
use Rattle.study_levels.proofs.CellsLemmas.{at_place}
use Rattle.study_levels.proofs.propagate.mark_by_moves.Goals as goal

pub mark_cell-requires-clause-number : goal.mark_cell-requires-clause-number
mark_cell-requires-clause-number g c =
    let numbers = c.as_slice-from-items.result.now in
    let i = c.loop-from.from-index in
    let there = subst (λ (xs : List ℕ). Contains xs (slice_index numbers i)) c.as_slice-from-items.ensures.value
    (Contains-get_or numbers i 0 c.loop-from-test.true) in
    let t = c.earlier-before.ensures.only (slice_index numbers i) there in
    subst (λ (n : ℕ). slice_index numbers i < n) (sym c.loop-from.invariant.size) (c.requires.laws.below (slice_index numbers i) t.0 t.2)

pub returns-clause-done : goal.returns-clause-done
returns-clause-done g c = λ i t.
    let numbers = c.as_slice-from-items.result.now in
    let there = subst (λ (xs : List ℕ). Contains xs i) (sym c.as_slice-from-items.ensures.value) (c.earlier-before.ensures.all i t) in
    let place = at_place numbers i there in
    subst (λ (n : ℕ). slice_index c.loop-from.cells n ≢ 0) place.2
    (c.loop-from.invariant.done place.0 (omega (arith, place.1, c.loop-from-test.false)))

use Rattle.std.proofs.Common.{arith, ℕ, ◌≤◌, List, slice_index, inl, inr, subst}
use Rattle.study_levels.proofs.BlockLemmas.{below_or}
use Rattle.study_levels.proofs.DueLemmas.{none_due}
use Rattle.study_levels.proofs.level_cells.LevelCells.next_due_row.Goals as goal

pub returns-clause-none : goal.returns-clause-none
returns-clause-none g c = λ i a b e.
    let level = c.self.inside.level in
    let past = c.if-byte-level_from.false in
    let all = c.level_from.ensures.all in
    none_due level c.self.inside.looked c.args.from c.min.result c.args.byte c.self.inside.cells.items c.self.inside.due.items c.self.invariant
    (omega (arith, past, all))
    (λ l. elim (below_or level 255) [
      | inl low ↦ (let n = c.level_from.ensures.looked l low in omega (arith, n, past))
      | inr high ↦ absurd (let fits = c.ranges.byte.fits in omega (arith, high, past, all, fits))
    ])
    (λ r f t. subst (λ (xs : List ℕ). c.args.byte ≤ slice_index xs r) c.as_slice.ensures.value
    (c.next_below-row.ensures.none r f (let m = c.min.ensures in omega (arith, m, t))))
    i a b (rw c.self.view_is e)

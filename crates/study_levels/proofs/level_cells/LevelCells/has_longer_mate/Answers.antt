use Rattle.std.proofs.Common.{arith, ℕ, ◌<◌, ◌≤◌, List, length, slice_index, subst}
use Rattle.study_levels.proofs.DueLemmas.{none_to_come}
use Rattle.study_levels.proofs.level_cells.LevelCells.has_longer_mate.Goals as goal

pub returns-else-level-level_from-clause-none : goal.returns-else-level-level_from-clause-none
returns-else-level-level_from-clause-none g c = λ e i.
    let level = c.self.inside.level in
    let past = c.if-level-level_from.false in
    let all = c.level_from.ensures.all in
    subst (λ (xs : List ℕ). slice_index xs i ≤ c.args.level) c.self.view_is
    (none_to_come level c.self.inside.looked c.args.level c.self.inside.cells.items c.self.inside.due.items c.self.invariant
    (omega (arith, past, all))
    (λ l. (let n = c.level_from.ensures.looked l (let r = c.requires in omega (arith, r, past, all)) in omega (arith, n, past)))
    (λ r b. subst (λ (xs : List ℕ). r < length xs → 255 ≤ slice_index xs r) c.as_slice.ensures.value (c.has_below.ensures e r) b)
    i)

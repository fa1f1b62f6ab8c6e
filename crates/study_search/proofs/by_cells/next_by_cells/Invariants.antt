use Rattle.std.proofs.Common.{ℕ, ◌<◌, ◌≤◌}
use Rattle.study_search.specs.ByCells.{IsZugzwangBy}
use Rattle.study_search.proofs.by_cells.next_by_cells.Given as goal

abbrev pub invariant-loop-number : goal.invariant-loop-number
invariant-loop-number l = (k : ℕ) → l.from ≤ k → k < l.number → ¬ (IsZugzwangBy l.class l.own l.other k)

use Rattle.std.proofs.Common.{◌≡◌, ◌≤◌, ◌+◌, take}
use Rattle.std.specs.Prelude.{nat_le}
use Rattle.std.specs.List.{count_by}
use Rattle.study_marks.proofs.mark_rules.count_within.Given as goal

-- the count among the first distances
abbrev pub invariant-loop-plies : goal.invariant-loop-plies
invariant-loop-plies l = record {
  counted : l.count ≡ count_by (λ n. nat_le (l.depth + n) l.limit) (take l.plies-index l.mates);
  few : l.count ≤ l.plies-index;
}

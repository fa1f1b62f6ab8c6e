use Rattle.std.proofs.Common.{◌≡◌, ◌≤◌, length, take, not}
use Rattle.std.specs.List.{filter}
use Rattle.study_facts.specs.Continuations.{contains_move}
use Rattle.study_facts.proofs.move_lists.moves_except.Given as goal

abbrev pub invariant-loop-m : goal.invariant-loop-m
invariant-loop-m l = record {
  kept : l.list.items ≡ filter (λ m. not (contains_move m l.without)) (take l.m-index l.m-items);
  few : length l.list.items ≤ l.m-index;
}

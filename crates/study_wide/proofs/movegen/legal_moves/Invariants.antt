use Rattle.std.proofs.Common.{◌≡◌, ◌≤◌, ◌+◌, ◌*◌, ◌++◌, length, drop}
use Rattle.std.specs.List.{count_by, flat_map}
use Rattle.study_wide.specs.Wide.{of_side}
use Rattle.study_wide.specs.LegalList.{wide_legal_list, legal_from}
use Rattle.study_wide.proofs.movegen.legal_moves.Given as goal

-- with the moves of the men that are left the list has all moves
abbrev pub invariant-loop-man : goal.invariant-loop-man
invariant-loop-man l = record {
  listed : l.list.items ++ flat_map (λ m. legal_from l.p m.at) (drop l.man-index l.men) ≡ wide_legal_list l.p;
  few : length l.list.items + 27 * count_by (of_side l.side) (drop l.man-index l.men) ≤ 432;
}

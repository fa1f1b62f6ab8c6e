use Rattle.std.proofs.Common.{◌≡◌, ◌++◌, take}
use Rattle.std.specs.List.{flat_map}
use Rattle.study_page.specs.Rows.{also_item}
use Rattle.study_page.proofs.cards_and_tries.put_each_also.Given as goal

abbrev pub invariant-loop-x : goal.invariant-loop-x
invariant-loop-x g l = l.html ≡ l.fn.html ++ flat_map (also_item l.fn.p l.fn.value) (take l.x-index l.list)

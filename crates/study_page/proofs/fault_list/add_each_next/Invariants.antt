use Rattle.std.proofs.Common.{◌≡◌, ◌++◌, take}
use Rattle.std.specs.List.{flat_map}
use Rattle.study_page.specs.Rows.{next_words}
use Rattle.study_page.proofs.fault_list.add_each_next.Given as goal

abbrev pub invariant-loop-x : goal.invariant-loop-x
invariant-loop-x g l = l.text ≡ l.fn.text ++ flat_map (next_words l.fn.p l.fn.value) (take l.x-index l.list)

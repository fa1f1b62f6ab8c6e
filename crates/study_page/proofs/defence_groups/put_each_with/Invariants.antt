use Rattle.std.proofs.Common.{◌≡◌, ◌++◌, take}
use Rattle.std.specs.List.{flat_map}
use Rattle.study_page.specs.Rows.{with_answer}
use Rattle.study_page.proofs.defence_groups.put_each_with.Given as goal

abbrev pub invariant-loop-y : goal.invariant-loop-y
invariant-loop-y g l = l.html ≡ l.fn.html ++ flat_map (with_answer l.fn.p l.fn.text) (take l.y-index l.list)

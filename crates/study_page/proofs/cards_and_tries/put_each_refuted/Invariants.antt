use Rattle.std.proofs.Common.{◌≡◌, ◌++◌, take}
use Rattle.std.specs.List.{flat_map}
use Rattle.study_page.specs.Rows.{refuted_item}
use Rattle.study_page.proofs.cards_and_tries.put_each_refuted.Given as goal

abbrev pub invariant-loop-x : goal.invariant-loop-x
invariant-loop-x g l = l.html ≡ l.fn.html ++ flat_map (refuted_item l.fn.p) (take l.x-index l.list)

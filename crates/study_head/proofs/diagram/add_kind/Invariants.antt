use Rattle.std.proofs.Common.{◌≡◌, ◌++◌, take}
use Rattle.std.specs.List.{flat_map}
use Rattle.study_head.specs.Diagram.{listed_man}
use Rattle.study_head.proofs.diagram.add_kind.Given as goal

abbrev pub invariant-loop-man : goal.invariant-loop-man
invariant-loop-man g l = l.text ≡ l.fn.text ++ flat_map (listed_man l.side l.kind) (take l.man-index l.men)

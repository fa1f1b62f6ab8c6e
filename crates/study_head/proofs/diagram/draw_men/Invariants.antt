use Rattle.std.proofs.Common.{◌≡◌, ◌++◌, take}
use Rattle.std.specs.List.{flat_map}
use Rattle.study_head.specs.Diagram.{standing}
use Rattle.study_head.proofs.diagram.draw_men.Given as goal

abbrev pub invariant-loop-man : goal.invariant-loop-man
invariant-loop-man g l = l.html ≡ l.fn.html ++ flat_map standing (take l.man-index l.men)

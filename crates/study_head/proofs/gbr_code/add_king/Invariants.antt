use Rattle.std.proofs.Common.{◌≡◌, ◌++◌, take}
use Rattle.std.specs.List.{flat_map}
use Rattle.study_head.specs.Counts.{king_square}
use Rattle.study_head.proofs.gbr_code.add_king.Given as goal

abbrev pub invariant-loop-man : goal.invariant-loop-man
invariant-loop-man g l = l.text ≡ l.fn.text ++ flat_map (king_square l.side) (take l.man-index l.men)

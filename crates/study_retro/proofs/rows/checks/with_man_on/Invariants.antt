use Rattle.std.proofs.Common.{◌≡◌, map, take}
use Rattle.study_board.specs.Men.{moved_if}
use Rattle.study_retro.proofs.rows.checks.with_man_on.Given as goal

abbrev pub invariant-loop-man : goal.invariant-loop-man
invariant-loop-man l = l.list.items ≡ map (moved_if l.from l.to) (take l.man-index l.others)

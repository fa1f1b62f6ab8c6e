use Rattle.std.proofs.Common.{◌≡◌, drop}
use Rattle.study_board.specs.Position.{man_at}
use Rattle.study_wide.proofs.wide.WidePosition.man_at.Given as goal

-- none so far is on the square
abbrev pub invariant-loop-m : goal.invariant-loop-m
invariant-loop-m l = man_at (drop l.m-index l.men) l.x ≡ man_at l.men l.x

use Rattle.std.proofs.Common.{◌≡◌, ℕ, ◌<◌, take}
use Rattle.study_board.specs.Sets.{has, is_blocked_past}
use Rattle.study_board.proofs.square_sets.shadows_without.Given as goal

abbrev pub invariant-loop-m : goal.invariant-loop-m
invariant-loop-m l = (x : ℕ) → x < 64 → has l.set x ≡ is_blocked_past (take l.m-index l.men) l.lifted l.a x

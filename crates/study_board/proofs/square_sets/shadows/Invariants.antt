use Rattle.std.proofs.Common.{◌≡◌, ℕ, ◌<◌, take}
use Rattle.study_board.specs.Men.{is_blocked}
use Rattle.study_board.specs.Sets.{has}
use Rattle.study_board.proofs.square_sets.shadows.Given as goal

abbrev pub invariant-loop-m : goal.invariant-loop-m
invariant-loop-m l = (x : ℕ) → x < 64 → has l.set x ≡ is_blocked (take l.m-index l.men) l.a x

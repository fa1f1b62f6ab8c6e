use Rattle.std.proofs.Common.{◌≡◌, ℕ, ◌<◌, take}
use Rattle.std.specs.List.{list_any}
use Rattle.study_board.specs.Sets.{has}
use Rattle.study_moves.specs.KingSafety.{threatens}
use Rattle.study_moves.proofs.king_safety.threatened_past.Given as goal

abbrev pub invariant-loop-m : goal.invariant-loop-m
invariant-loop-m l = (x : ℕ) → x < 64 → has l.set x ≡ list_any (threatens l.men l.by l.lifted l.k x) (take l.m-index l.men)

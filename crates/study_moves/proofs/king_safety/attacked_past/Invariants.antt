use Rattle.std.proofs.Common.{◌≡◌, ℕ, ◌<◌, ◌&&◌, take}
use Rattle.std.specs.List.{list_any}
use Rattle.study_board.specs.Sets.{has, bears_past}
use Rattle.study_moves.specs.KingSafety.{is_other_man}
use Rattle.study_moves.proofs.king_safety.attacked_past.Given as goal

abbrev pub invariant-loop-m : goal.invariant-loop-m
invariant-loop-m l = (x : ℕ) → x < 64 → has l.set x ≡ list_any (λ m. is_other_man l.by l.lifted m && bears_past l.men l.lifted m x) (take l.m-index l.men)

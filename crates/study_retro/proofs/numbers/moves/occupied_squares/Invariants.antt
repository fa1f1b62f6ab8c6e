use Rattle.std.proofs.Common.{◌≡◌, ℕ, ◌<◌, ◌==◌, take}
use Rattle.std.specs.List.{list_any}
use Rattle.study_board.specs.Sets.{has}
use Rattle.study_retro.proofs.numbers.moves.occupied_squares.Given as goal

abbrev pub invariant-loop-m : goal.invariant-loop-m
invariant-loop-m l = (x : ℕ) → x < 64 → has l.set x ≡ list_any (λ m. m.at == x) (take l.m-index l.men)

use Rattle.std.proofs.Common.{◌≡◌, ℕ, ◌<◌, ◌&&◌, take}
use Rattle.std.specs.List.{list_any}
use Rattle.study_board.specs.Men.{same_side}
use Rattle.study_board.specs.Sets.{has}
use Rattle.study_retro.specs.RowMoves.{keeps_attack_with}
use Rattle.study_retro.proofs.rows.checks.squares_attacking.Given as goal

abbrev pub invariant-loop-m : goal.invariant-loop-m
invariant-loop-m l = (y : ℕ) → y < 64 → has l.set y ≡ list_any (λ m. same_side m.side l.by && keeps_attack_with l.others y m l.x) (take l.m-index l.others)

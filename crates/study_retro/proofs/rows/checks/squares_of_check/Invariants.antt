use Rattle.std.proofs.Common.{◌≡◌, ℕ, ◌<◌, take}
use Rattle.std.specs.List.{list_any}
use Rattle.study_board.specs.Sets.{has}
use Rattle.study_retro.specs.RowMoves.{king_attacked_with}
use Rattle.study_retro.proofs.rows.checks.squares_of_check.Given as goal

abbrev pub invariant-loop-k : goal.invariant-loop-k
invariant-loop-k l = (y : ℕ) → y < 64 → has l.set y ≡ list_any (king_attacked_with l.others l.last l.side y) (take l.k-index l.others)

use Rattle.std.proofs.Common.{◌≡◌, ℕ, ◌<◌, ◌&&◌, take}
use Rattle.std.specs.List.{list_any}
use Rattle.study_board.specs.Sets.{has}
use Rattle.study_retro.specs.RowMoves.{does_not_block}
use Rattle.study_retro.proofs.rows.checks.squares_attacking_of.Given as goal

abbrev pub invariant-loop-b : goal.invariant-loop-b
invariant-loop-b l = (y : ℕ) → y < 64 → has l.set y ≡ list_any (λ b. has b.squares l.x && does_not_block b.man l.x y) (take l.b-index l.attackers)

use Rattle.std.proofs.Common.{◌≡◌, ℕ, ◌<◌, take}
use Rattle.std.specs.List.{list_any}
use Rattle.study_board.specs.Sets.{has}
use Rattle.study_retro.proofs.rows.checks.squares_attacked_by.Given as goal

abbrev pub invariant-loop-b : goal.invariant-loop-b
invariant-loop-b l = (x : ℕ) → x < 64 → has l.set x ≡ list_any (λ b. has b.squares x) (take l.b-index l.attackers)

use Rattle.std.proofs.Common.{◌≡◌, ℕ, ◌<◌, take}
use Rattle.std.specs.List.{list_any}
use Rattle.study_board.specs.Sets.{has}
use Rattle.study_moves.specs.Unmoves.{king_was_attacked}
use Rattle.study_moves.proofs.unmove.origins_in_check.Given as goal

abbrev pub invariant-loop-k : goal.invariant-loop-k
invariant-loop-k l = (a : ℕ) → a < 64 → has l.set a ≡ list_any (king_was_attacked l.men l.side l.man a) (take l.k-index l.men)

use Rattle.std.proofs.Common.{◌≡◌, ℕ, ◌<◌, take}
use Rattle.std.specs.List.{list_any}
use Rattle.study_board.specs.Sets.{has}
use Rattle.study_moves.specs.KingSafety.{king_threatened}
use Rattle.study_moves.proofs.king_safety.threatened_by_others.Given as goal

abbrev pub invariant-loop-k : goal.invariant-loop-k
invariant-loop-k l = (x : ℕ) → x < 64 → has l.set x ≡ list_any (king_threatened l.men l.side l.lifted x) (take l.k-index l.men)

use Rattle.std.proofs.Common.{◌≡◌, ◌≤◌, length, take}
use Rattle.study_games.specs.Symbols.{without_tail}
use Rattle.study_games.proofs.spelling.len_without_tail.Given as goal

abbrev pub invariant-loop-n : goal.invariant-loop-n
invariant-loop-n l = (l.n ≤ length l.text) × (without_tail (take l.n l.text) ≡ without_tail l.text)

abbrev pub decreases-loop-n : goal.decreases-loop-n
decreases-loop-n l = l.n

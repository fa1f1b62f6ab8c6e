use Rattle.std.proofs.Common.{◌≡◌, ◌≤◌, length, take}
use Rattle.study_games.specs.Symbols.{without_end}
use Rattle.study_games.specs.Words.{is_space}
use Rattle.study_games.proofs.words.len_without_end_spaces.Given as goal

abbrev pub invariant-loop-n : goal.invariant-loop-n
invariant-loop-n l = (l.n ≤ length l.text) × (without_end is_space (take l.n l.text) ≡ without_end is_space l.text)

abbrev pub decreases-loop-n : goal.decreases-loop-n
decreases-loop-n l = l.n

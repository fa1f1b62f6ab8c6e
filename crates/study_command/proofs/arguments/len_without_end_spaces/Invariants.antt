use Rattle.std.proofs.Common.{◌≡◌, ◌≤◌, length, take}
use Rattle.study_command.specs.Parser.{trim_end}
use Rattle.study_command.proofs.arguments.len_without_end_spaces.Given as goal

abbrev pub invariant-loop-n : goal.invariant-loop-n
invariant-loop-n l = (l.n ≤ length l.text) × (trim_end (take l.n l.text) ≡ trim_end l.text)

abbrev pub decreases-loop-n : goal.decreases-loop-n
decreases-loop-n l = l.n

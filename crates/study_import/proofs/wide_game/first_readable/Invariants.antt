use Rattle.std.proofs.Common.{◌≡◌, length}
use Rattle.study_import.specs.Blocks.{first_wide_readable}
use Rattle.study_import.proofs.wide_game.first_readable.Given as goal

abbrev pub invariant-loop-rest : goal.invariant-loop-rest
invariant-loop-rest g l = first_wide_readable l.rest l.text l.start ≡ first_wide_readable l.languages l.text l.start

abbrev pub decreases-loop-rest : goal.decreases-loop-rest
decreases-loop-rest g l = length l.rest

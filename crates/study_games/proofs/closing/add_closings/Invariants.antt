use Rattle.std.proofs.Common.{◌≡◌, ◌++◌}
use Rattle.std.specs.Prelude.{replicate}
use Rattle.study_games.proofs.closing.add_closings.Given as goal

abbrev pub invariant-loop-left : goal.invariant-loop-left
invariant-loop-left g l = l.out ++ replicate l.left 41 ≡ l.fn.out ++ replicate l.count 41

abbrev pub decreases-loop-left : goal.decreases-loop-left
decreases-loop-left g l = l.left

use Rattle.std.proofs.Common.{◌+◌, ◌*◌, ◌<◌, ℕ}
use Rattle.study_moves.specs.Game.{MatesWithin}
use Rattle.study_moves.proofs.forced_mate.solve.Given as goal

abbrev pub invariant-loop-before : goal.invariant-loop-before
invariant-loop-before l = (k : ℕ) → k < 2 * l.before + 1 → MatesWithin k l.p → ⊥

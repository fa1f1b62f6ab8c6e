use Rattle.std.proofs.Common.{◌<◌, ◌-◌, ℕ, get_or}
use Rattle.study_moves.specs.declared.moves.Move.{Move}
use Rattle.study_moves.specs.Rules.{after}
use Rattle.study_moves.specs.Game.{MatesWithin, IsMatedWithin}
use Rattle.study_moves.proofs.forced_mate.+mate.Given as goal

abbrev pub decreases-is_mated_within : goal.decreases-is_mated_within
decreases-is_mated_within l = l.n

abbrev pub decreases-mates_within : goal.decreases-mates_within
decreases-mates_within l = l.n

abbrev pub invariant-mates_within-loop-m : goal.invariant-mates_within-loop-m
invariant-mates_within-loop-m l = (k : ℕ) (d : Move) → k < l.m-index → ¬ (IsMatedWithin (l.n - 1) (after l.p (get_or l.m-items k d)))

abbrev pub invariant-is_mated_within-loop-m : goal.invariant-is_mated_within-loop-m
invariant-is_mated_within-loop-m l = (k : ℕ) (d : Move) → k < l.m-index → MatesWithin (l.n - 1) (after l.p (get_or l.m-items k d))

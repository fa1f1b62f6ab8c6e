use Rattle.std.proofs.Common.{◌≡◌, take}
use Rattle.study_marks.proofs.move_outcomes.MoveOutcomes.copied.Given as goal

-- the distances so far
abbrev pub invariant-loop-plies : goal.invariant-loop-plies
invariant-loop-plies l = l.mates.items ≡ take l.plies-index l.plies-items

use Rattle.std.proofs.Common.{◌≡◌, take}
use Rattle.study_tails.proofs.tails.path_of.Given as goal

-- the path so far
abbrev pub invariant-loop-step : goal.invariant-loop-step
invariant-loop-step g l = l.path ≡ take l.step-index l.steps

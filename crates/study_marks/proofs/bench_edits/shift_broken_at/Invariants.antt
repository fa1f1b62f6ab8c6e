use Rattle.std.proofs.Common.{◌≡◌, take}
use Rattle.study_marks.proofs.bench_edits.shift_broken_at.Given as goal

-- the path so far
abbrev pub invariant-loop-step : goal.invariant-loop-step
invariant-loop-step g l = l.path ≡ take l.step-index l.steps

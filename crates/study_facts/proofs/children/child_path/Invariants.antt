use Rattle.std.proofs.Common.{◌≡◌, take}
use Rattle.study_facts.proofs.children.child_path.Given as goal

-- the first places of the path
abbrev pub invariant-loop-step : goal.invariant-loop-step
invariant-loop-step l = l.child.items ≡ take l.step-index l.steps

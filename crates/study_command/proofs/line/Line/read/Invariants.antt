use Rattle.std.proofs.Common.{◌-◌, length}
use Rattle.study_command.proofs.LineTaken.{Begins}
use Rattle.study_command.proofs.line.Line.read.Given as goal

abbrev pub invariant-loop-self : goal.invariant-loop-self
invariant-loop-self g l = Begins (g.R.Read.remaining l.initial.script) (g.R.Read.remaining l.script) l.self

abbrev pub decreases-loop-self : goal.decreases-loop-self
decreases-loop-self g l = 1025 - length l.self

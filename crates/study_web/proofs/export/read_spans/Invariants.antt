use Rattle.std.proofs.Common.{◌≡◌, ◌++◌, length}
use Rattle.study_web.specs.Answers.{spans_of}
use Rattle.study_web.proofs.export.read_spans.Given as goal

abbrev pub invariant-loop-rest : goal.invariant-loop-rest
invariant-loop-rest g l = spans_of l.numbers ≡ l.spans.items ++ spans_of l.rest

abbrev pub decreases-loop-rest : goal.decreases-loop-rest
decreases-loop-rest g l = length l.rest

use Rattle.study_notation.proofs.DigitCounts.{CountsTo}
use Rattle.study_reading.proofs.numbering.read_number.Given as goal

abbrev pub invariant-loop-d : goal.invariant-loop-d
invariant-loop-d l = CountsTo l.text l.d-index l.n

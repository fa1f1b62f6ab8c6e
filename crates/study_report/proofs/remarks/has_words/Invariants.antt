use Rattle.std.proofs.Common.{◌≡◌, length}
use Rattle.study_report.specs.Remarks.{has_words}
use Rattle.study_report.proofs.remarks.has_words.Given as goal

abbrev pub invariant-loop-rest : goal.invariant-loop-rest
invariant-loop-rest l = has_words l.words l.rest ≡ has_words l.words l.text

abbrev pub decreases-loop-rest : goal.decreases-loop-rest
decreases-loop-rest l = length l.rest

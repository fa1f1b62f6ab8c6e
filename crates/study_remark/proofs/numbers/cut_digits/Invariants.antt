use Rattle.std.proofs.Common.{◌≡◌, ◌≤◌, ◌^◌, length}
use Rattle.study_remark.specs.Reading.{digits_after}
use Rattle.study_remark.proofs.numbers.cut_digits.Given as goal

abbrev pub invariant-loop-rest : goal.invariant-loop-rest
invariant-loop-rest l = record { same : digits_after l.number l.rest ≡ digits_after 0 l.text; within : l.number ≤ 2 ^ 32 }

abbrev pub decreases-loop-rest : goal.decreases-loop-rest
decreases-loop-rest l = length l.rest

use Rattle.study_notation.proofs.DigitCounts.{one_more_digit}
use Rattle.study_notation.proofs.digits.read_digits.Goals as goal

pub loop-d-preserved : goal.loop-d-preserved
loop-d-preserved c =
    let inside = rw c.if-not-is_ascii_digit.false at c.is_ascii_digit.ensures.cases in
    one_more_digit c.args.text.now c.loop-d.d-index c.loop-d.n c.loop-d-test.true c.loop-d.invariant inside.0 inside.1

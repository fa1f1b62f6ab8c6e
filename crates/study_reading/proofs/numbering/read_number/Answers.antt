use Rattle.std.proofs.Common.{◌≤◌, arith}
use Rattle.study_notation.proofs.DigitCounts.{one_more_digit}
use Rattle.study_reading.proofs.Powers.{eight_digits}
use Rattle.study_reading.proofs.numbering.read_number.Goals as goal

pub overflow_mul-n : goal.overflow_mul-n
overflow_mul-n c =
    let inside = c.loop-d-test.true in
    let past = c.if-text-gt9.false in
    let low : c.loop-d.d-index ≤ 8 = omega (arith, inside, past) in
    let power = eight_digits c.loop-d.d-index low in
    let below = c.loop-d.invariant.below in
    omega (arith, power, below)

pub overflow_add-n : goal.overflow_add-n
overflow_add-n c =
    let inside = c.loop-d-test.true in
    let past = c.if-text-gt9.false in
    let low : c.loop-d.d-index ≤ 8 = omega (arith, inside, past) in
    let power = eight_digits c.loop-d.d-index low in
    let below = c.loop-d.invariant.below in
    let digit = rw c.if-not-is_ascii_digit.false at c.is_ascii_digit.ensures.cases in
    let high = digit.1 in
    omega (arith, power, below, high)

pub loop-d-preserved : goal.loop-d-preserved
loop-d-preserved c =
    let inside = rw c.if-not-is_ascii_digit.false at c.is_ascii_digit.ensures.cases in
    one_more_digit c.args.text.now c.loop-d.d-index c.loop-d.n c.loop-d-test.true c.loop-d.invariant inside.0 inside.1

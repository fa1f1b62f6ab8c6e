use Rattle.std.proofs.Common.{◌≡◌, ◌+◌, true, false, cond, ◌≤◌, [], sym, ap, ◌∙◌, subst, arith}
use Rattle.std.proofs.KnownBytes.{Consumes-nil, Consumes-kept}
use Rattle.study_command.specs.Lines.{GaveFeeds}
use Rattle.study_script.specs.Replies.{IsReplyIn}
use Rattle.study_script.specs.Stores.{IsTrusted}
use Rattle.study_script.specs.SessionHolds.{Answered, BrokenOff}
use Rattle.study_command.proofs.LineTaken.{has_more, has_none, gave-more, gave-same}
use Rattle.study_script.proofs.FirstLines.{with_trust, next_trusted, Ran, RanOn-more, ran_ends, ran_long, ran_many, ran_read, ran_write}
use Rattle.study_script.proofs.FirstLines.{Gone, gone_ends, gone_long, gone_many, gone_more, gone_read, gone_write}
use Rattle.study_script.specs.Written.{IsCutOff}
use Rattle.study_script.proofs.PiecesWritten.{Wrote, wrote_more, wrote_ends, wrote_long, wrote_many, wrote_read, wrote_cut_off}
use Rattle.study_script.proofs.running.run_session.Goals as goal
use Rattle.study_script.proofs.running.run_session.Goals.{then-was_refused, else-was_refused}

pub returns-in-Err-TooLong-clause-outcome : goal.returns-in-Err-TooLong-clause-outcome
returns-in-Err-TooLong-clause-outcome g c = λ trusted separate first h. with_trust (g.R.Read.remaining c.args.script.now) _ _ (λ bytes is may.
    let on = c.loop-n.invariant.0 trusted separate first h bytes is may in
    ran_long separate (g.R.Read.remaining c.read.new.script) (g.R.Read.remaining c.args.script.now)
    (g.R.Read.remaining c.loop-n.script) (g.W.Write.contents c.args.out.now) (g.W.Write.contents c.loop-n.out)
    first on.state c.loop-n.n c.loop-n.refused on.ran (c.in-Err-TooLong.ensures.long cc) c.loop-n-test.true)

pub returns-in-Ok-false-clause-outcome : goal.returns-in-Ok-false-clause-outcome
returns-in-Ok-false-clause-outcome g c = λ trusted separate first h. with_trust (g.R.Read.remaining c.args.script.now) _ _ (λ bytes is may.
    let on = c.loop-n.invariant.0 trusted separate first h bytes is may in
    let none = rw c.in-Ok-false.field-0-test at c.in-Ok-false.ensures.line in
    ran_ends separate (g.R.Read.remaining c.read.new.script) (g.R.Read.remaining c.args.script.now)
    (g.R.Read.remaining c.loop-n.script) (g.R.Read.remaining c.read.new.script)
    (g.W.Write.contents c.args.out.now) (g.W.Write.contents c.loop-n.out) first on.state c.read.new.self
    c.loop-n.n c.loop-n.refused on.ran none (omega arith))

pub returns-in-Err-clause-outcome : goal.returns-in-Err-clause-outcome
returns-in-Err-clause-outcome g c = λ trusted separate first h. with_trust (g.R.Read.remaining c.args.script.now) _ _ (λ bytes is may.
    let on = c.loop-n.invariant.0 trusted separate first h bytes is may in
    let line = c.read.new.self in
    let mid = g.W.Write.contents c.loop-n.out in
    let new = g.W.Write.contents c.answer.new.out in
    let some = rw c.in-Ok-true.field-0-test at c.in-Ok-true.ensures.line in
    let trust : IsTrusted trusted c.as_slice.result.now = rw c.as_slice.ensures (next_trusted trusted (g.R.Read.remaining c.args.script.now)
    (g.R.Read.remaining c.loop-n.script) (g.R.Read.remaining c.read.new.script) line c.loop-n.n bytes
    c.loop-n.invariant.3 some is may) in
    let part : BrokenOff (IsReplyIn separate on.state line) mid new = rw c.as_slice.ensures at (c.in-Err.ensures.err trusted separate on.state trust on.held) in
    ran_write separate (g.R.Read.remaining c.args.script.now) (g.R.Read.remaining c.loop-n.script)
    (g.R.Read.remaining c.read.new.script) (g.W.Write.contents c.args.out.now) mid new first on.state line
    c.loop-n.n c.loop-n.refused on.ran some c.in-Ok-true.ensures.short c.loop-n-test.true
    (gave-more (g.R.Read.remaining c.args.script.now) (g.R.Read.remaining c.loop-n.script)
    (g.R.Read.remaining c.read.new.script) c.loop-n.n 1 c.loop-n.invariant.2 c.in-Ok-true.ensures.one_feed) part)

pub loop-n-preserved : goal.loop-n-preserved
loop-n-preserved g c =
    let line = c.read.new.self in
    let mid = g.W.Write.contents c.loop-n.out in
    let new = g.W.Write.contents c.answer.new.out in
    let some = rw c.in-Ok-true.field-0-test at c.in-Ok-true.ensures.line in
    let counted : c.if-was_refused.refused ≡ c.loop-n.refused + cond c.in-Ok.was_refused 1 0 =
    elim c.if-was_refused.branch [
      | then-was_refused w ↦ w.refused-is ∙ ap (λ b. c.loop-n.refused + cond b 1 0) (sym w.if-was_refused.true)
      | else-was_refused w ↦ w.refused-is ∙ omega arith ∙ ap (λ b. c.loop-n.refused + cond b 1 0) (sym w.if-was_refused.false)
    ] in
    let below : cond c.in-Ok.was_refused 1 0 ≤ 1 = elim c.in-Ok.was_refused as (λ b. cond b 1 0 ≤ 1) [ true ↦ omega arith | false ↦ omega arith ] in (
      λ trusted separate first h bytes is may.
          let on = c.loop-n.invariant.0 trusted separate first h bytes is may in
          let trust : IsTrusted trusted c.as_slice.result.now = rw c.as_slice.ensures (next_trusted trusted (g.R.Read.remaining c.args.script.now)
          (g.R.Read.remaining c.loop-n.script) (g.R.Read.remaining c.read.new.script) line c.loop-n.n bytes
          c.loop-n.invariant.3 some is may) in
          let said : Answered (IsReplyIn separate on.state line) (g.D.Interpreter.holds c.answer.new.self trusted separate) mid new
          c.in-Ok.was_refused = rw c.as_slice.ensures at (c.in-Ok.ensures.ok trusted separate on.state trust on.held) in
          RanOn-more separate (g.D.Interpreter.holds c.loop-n.interpreter trusted separate) (g.D.Interpreter.holds c.answer.new.self trusted separate)
          (g.R.Read.remaining c.args.script.now) (g.R.Read.remaining c.loop-n.script)
          (g.R.Read.remaining c.read.new.script) (g.W.Write.contents c.args.out.now) mid new first line c.loop-n.n
          c.loop-n.refused c.if-was_refused.refused c.in-Ok.was_refused on some c.in-Ok-true.ensures.short said
          counted,
      omega arith,
      gave-more (g.R.Read.remaining c.args.script.now) (g.R.Read.remaining c.loop-n.script)
          (g.R.Read.remaining c.read.new.script) c.loop-n.n 1 c.loop-n.invariant.2 c.in-Ok-true.ensures.one_feed,
      gone_more (g.R.Read.remaining c.args.script.now) (g.R.Read.remaining c.loop-n.script)
          (g.R.Read.remaining c.read.new.script) line c.loop-n.n c.loop-n.invariant.3 some c.in-Ok-true.ensures.short,
      wrote_more (g.R.Read.remaining c.args.script.now) (g.R.Read.remaining c.loop-n.script)
          (g.R.Read.remaining c.read.new.script) (g.W.Write.contents c.args.out.now) mid new line c.loop-n.n c.loop-n.refused
          c.if-was_refused.refused c.in-Ok.was_refused c.loop-n.invariant.4 some
          (rw c.as_slice.ensures at c.in-Ok.ensures.written) counted,
    )

pub returns-in-Ok-None-clause-outcome : goal.returns-in-Ok-None-clause-outcome
returns-in-Ok-None-clause-outcome g c = λ trusted separate first h. with_trust (g.R.Read.remaining c.args.script.now) _ _ (λ bytes is may.
    let on = c.loop-n.invariant.0 trusted separate first h bytes is may in
    let end = rw c.in-Ok-None.field-0-is at c.in-Ok-None.ensures.end in
    let script = g.R.Read.remaining c.args.script.now in
    let now = g.R.Read.remaining c.loop-n.script in
    let old = g.W.Write.contents c.args.out.now in
    let new = g.W.Write.contents c.loop-n.out in
    let at : c.loop-n.n ≡ 100000 = omega arith in
    let ran = subst (λ k. Ran separate script now old new first on.state k c.loop-n.refused) at on.ran in
    ran_ends separate (g.R.Read.remaining c.read_byte.new.script) script now (g.R.Read.remaining c.read_byte.new.script) old
    new first on.state [] 100000 c.loop-n.refused ran
    (has_none now (g.R.Read.remaining c.read_byte.new.script) end.0 end.1) (omega arith))

pub returns-in-Ok-Some-clause-outcome : goal.returns-in-Ok-Some-clause-outcome
returns-in-Ok-Some-clause-outcome g c = λ trusted separate first h. with_trust (g.R.Read.remaining c.args.script.now) _ _ (λ bytes is may.
    let on = c.loop-n.invariant.0 trusted separate first h bytes is may in
    let some = rw c.in-Ok-Some.field-0-is at c.in-Ok-Some.ensures.some in
    let script = g.R.Read.remaining c.args.script.now in
    let now = g.R.Read.remaining c.loop-n.script in
    let old = g.W.Write.contents c.args.out.now in
    let new = g.W.Write.contents c.loop-n.out in
    let at : c.loop-n.n ≡ 100000 = omega arith in
    let ran = subst (λ k. Ran separate script now old new first on.state k c.loop-n.refused) at on.ran in
    ran_many separate (g.R.Read.remaining c.read_byte.new.script) script now old new first on.state c.loop-n.refused ran
    (has_more now (g.R.Read.remaining c.read_byte.new.script) c.in-Ok-Some.field-0-0 some))

pub returns-in-Err-Device-clause-outcome : goal.returns-in-Err-Device-clause-outcome
returns-in-Err-Device-clause-outcome g c = λ trusted separate first h. with_trust (g.R.Read.remaining c.args.script.now) _ _ (λ bytes is may.
    let on = c.loop-n.invariant.0 trusted separate first h bytes is may in
    let script = g.R.Read.remaining c.args.script.now in
    let now = g.R.Read.remaining c.loop-n.script in
    let left = g.R.Read.remaining c.read.new.script in
    ran_read separate left script now (g.W.Write.contents c.args.out.now) (g.W.Write.contents c.loop-n.out) first on.state
    c.loop-n.n c.loop-n.refused on.ran (omega arith)
    (gave-same script now left c.loop-n.n c.loop-n.invariant.2 (c.in-Err-Device.ensures.no_feed cc)) (c.in-Err-Device.ensures.no_feed cc))

pub returns-in-Err-TooLong-clause-shape : goal.returns-in-Err-TooLong-clause-shape
returns-in-Err-TooLong-clause-shape g c =
    gone_long (g.R.Read.remaining c.read.new.script) (g.R.Read.remaining c.args.script.now)
    (g.R.Read.remaining c.loop-n.script) c.loop-n.n c.loop-n.invariant.3 (c.in-Err-TooLong.ensures.long cc) c.loop-n-test.true

pub returns-in-Ok-false-clause-shape : goal.returns-in-Ok-false-clause-shape
returns-in-Ok-false-clause-shape g c =
    let none = rw c.in-Ok-false.field-0-test at c.in-Ok-false.ensures.line in
    gone_ends (g.R.Read.remaining c.read.new.script) (g.R.Read.remaining c.args.script.now)
    (g.R.Read.remaining c.loop-n.script) (g.R.Read.remaining c.read.new.script) c.read.new.self c.loop-n.n
    c.loop-n.refused c.loop-n.invariant.3 none (omega arith) (omega arith)

pub returns-in-Err-clause-shape : goal.returns-in-Err-clause-shape
returns-in-Err-clause-shape g c =
    let some = rw c.in-Ok-true.field-0-test at c.in-Ok-true.ensures.line in
    gone_write (g.R.Read.remaining c.args.script.now) (g.R.Read.remaining c.loop-n.script)
    (g.R.Read.remaining c.read.new.script) c.read.new.self c.loop-n.n c.loop-n.invariant.3 some
    c.in-Ok-true.ensures.short c.loop-n-test.true

pub returns-in-Ok-None-clause-shape : goal.returns-in-Ok-None-clause-shape
returns-in-Ok-None-clause-shape g c =
    let end = rw c.in-Ok-None.field-0-is at c.in-Ok-None.ensures.end in
    let script = g.R.Read.remaining c.args.script.now in
    let now = g.R.Read.remaining c.loop-n.script in
    let at : c.loop-n.n ≡ 100000 = omega arith in
    let gone = subst (λ k. Gone script now k) at c.loop-n.invariant.3 in
    gone_ends (g.R.Read.remaining c.read_byte.new.script) script now (g.R.Read.remaining c.read_byte.new.script)
    [] 100000 c.loop-n.refused gone (has_none now (g.R.Read.remaining c.read_byte.new.script) end.0 end.1)
    (omega arith) (omega arith)

pub returns-in-Ok-Some-clause-shape : goal.returns-in-Ok-Some-clause-shape
returns-in-Ok-Some-clause-shape g c =
    let some = rw c.in-Ok-Some.field-0-is at c.in-Ok-Some.ensures.some in
    let script = g.R.Read.remaining c.args.script.now in
    let now = g.R.Read.remaining c.loop-n.script in
    let at : c.loop-n.n ≡ 100000 = omega arith in
    let gone = subst (λ k. Gone script now k) at c.loop-n.invariant.3 in
    gone_many (g.R.Read.remaining c.read_byte.new.script) script now gone
    (has_more now (g.R.Read.remaining c.read_byte.new.script) c.in-Ok-Some.field-0-0 some)

pub returns-in-Err-Device-clause-shape : goal.returns-in-Err-Device-clause-shape
returns-in-Err-Device-clause-shape g c =
    let script = g.R.Read.remaining c.args.script.now in
    let now = g.R.Read.remaining c.loop-n.script in
    let left = g.R.Read.remaining c.read.new.script in
    gone_read left script now c.loop-n.n c.loop-n.invariant.3 (omega arith)
    (gave-same script now left c.loop-n.n c.loop-n.invariant.2 (c.in-Err-Device.ensures.no_feed cc))

pub returns-in-Err-read_byte-clause-outcome : goal.returns-in-Err-read_byte-clause-outcome
returns-in-Err-read_byte-clause-outcome g c = λ trusted separate first h. with_trust (g.R.Read.remaining c.args.script.now) _ _ (λ bytes is may.
    let on = c.loop-n.invariant.0 trusted separate first h bytes is may in
    let script = g.R.Read.remaining c.args.script.now in
    let now = g.R.Read.remaining c.loop-n.script in
    let left = g.R.Read.remaining c.read_byte.new.script in
    let kept : GaveFeeds now left 0 = ([], Consumes-kept now now left [] (Consumes-nil now) c.in-Err-read_byte.ensures.err, omega arith) in
    ran_read separate left script now (g.W.Write.contents c.args.out.now) (g.W.Write.contents c.loop-n.out) first on.state
    c.loop-n.n c.loop-n.refused on.ran (omega arith) (gave-same script now left c.loop-n.n c.loop-n.invariant.2 kept)
    kept)

pub returns-in-Err-TooLong-clause-fits : goal.returns-in-Err-TooLong-clause-fits
returns-in-Err-TooLong-clause-fits g c =
    wrote_long (g.R.Read.remaining c.read.new.script) (g.R.Read.remaining c.args.script.now) (g.R.Read.remaining c.loop-n.script)
    (g.W.Write.contents c.args.out.now) (g.W.Write.contents c.loop-n.out) c.loop-n.n c.loop-n.refused c.loop-n.invariant.4
    (c.in-Err-TooLong.ensures.long cc)

pub returns-in-Ok-false-clause-fits : goal.returns-in-Ok-false-clause-fits
returns-in-Ok-false-clause-fits g c =
    let none = rw c.in-Ok-false.field-0-test at c.in-Ok-false.ensures.line in
    wrote_ends (g.R.Read.remaining c.read.new.script) (g.R.Read.remaining c.args.script.now) (g.R.Read.remaining c.loop-n.script)
    (g.R.Read.remaining c.read.new.script) (g.W.Write.contents c.args.out.now) (g.W.Write.contents c.loop-n.out) c.read.new.self
    c.loop-n.n c.loop-n.refused c.loop-n.invariant.4 none

pub returns-in-Err-clause-fits : goal.returns-in-Err-clause-fits
returns-in-Err-clause-fits g c =
    let some = rw c.in-Ok-true.field-0-test at c.in-Ok-true.ensures.line in
    let line = c.read.new.self in
    let mid = g.W.Write.contents c.loop-n.out in
    let new = g.W.Write.contents c.answer.new.out in
    let part : IsCutOff line mid new = rw c.as_slice.ensures at c.in-Err.ensures.cut_off in
    wrote_cut_off (g.R.Read.remaining c.args.script.now) (g.R.Read.remaining c.loop-n.script) (g.R.Read.remaining c.read.new.script)
    (g.W.Write.contents c.args.out.now) mid new line c.loop-n.n c.loop-n.refused c.loop-n.invariant.4 some part

pub returns-in-Ok-None-clause-fits : goal.returns-in-Ok-None-clause-fits
returns-in-Ok-None-clause-fits g c =
    let end = rw c.in-Ok-None.field-0-is at c.in-Ok-None.ensures.end in
    let script = g.R.Read.remaining c.args.script.now in
    let now = g.R.Read.remaining c.loop-n.script in
    let old = g.W.Write.contents c.args.out.now in
    let new = g.W.Write.contents c.loop-n.out in
    let at : c.loop-n.n ≡ 100000 = omega arith in
    let wrote = subst (λ k. Wrote script now old new k c.loop-n.refused) at c.loop-n.invariant.4 in
    wrote_ends (g.R.Read.remaining c.read_byte.new.script) script now (g.R.Read.remaining c.read_byte.new.script) old new
    [] 100000 c.loop-n.refused wrote (has_none now (g.R.Read.remaining c.read_byte.new.script) end.0 end.1)

pub returns-in-Ok-Some-clause-fits : goal.returns-in-Ok-Some-clause-fits
returns-in-Ok-Some-clause-fits g c =
    let script = g.R.Read.remaining c.args.script.now in
    let now = g.R.Read.remaining c.loop-n.script in
    let old = g.W.Write.contents c.args.out.now in
    let new = g.W.Write.contents c.loop-n.out in
    let at : c.loop-n.n ≡ 100000 = omega arith in
    let wrote = subst (λ k. Wrote script now old new k c.loop-n.refused) at c.loop-n.invariant.4 in
    wrote_many (g.R.Read.remaining c.read_byte.new.script) script now old new c.loop-n.refused wrote

pub returns-in-Err-Device-clause-fits : goal.returns-in-Err-Device-clause-fits
returns-in-Err-Device-clause-fits g c =
    let script = g.R.Read.remaining c.args.script.now in
    let now = g.R.Read.remaining c.loop-n.script in
    let left = g.R.Read.remaining c.read.new.script in
    wrote_read left script now (g.W.Write.contents c.args.out.now) (g.W.Write.contents c.loop-n.out) c.loop-n.n c.loop-n.refused
    c.loop-n.invariant.4 (gave-same script now left c.loop-n.n c.loop-n.invariant.2 (c.in-Err-Device.ensures.no_feed cc))

pub returns-in-Err-read_byte-clause-fits : goal.returns-in-Err-read_byte-clause-fits
returns-in-Err-read_byte-clause-fits g c =
    let script = g.R.Read.remaining c.args.script.now in
    let now = g.R.Read.remaining c.loop-n.script in
    let left = g.R.Read.remaining c.read_byte.new.script in
    let kept : GaveFeeds now left 0 = ([], Consumes-kept now now left [] (Consumes-nil now) c.in-Err-read_byte.ensures.err, omega arith) in
    wrote_read left script now (g.W.Write.contents c.args.out.now) (g.W.Write.contents c.loop-n.out) c.loop-n.n c.loop-n.refused
    c.loop-n.invariant.4 (gave-same script now left c.loop-n.n c.loop-n.invariant.2 kept)

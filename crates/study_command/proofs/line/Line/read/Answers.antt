use Rattle.std.proofs.Common.{◌∷◌, [], length, eqb, ap, ◌∙◌}
use Rattle.std.specs.Io.KnownBytes.{Consumes}
use Rattle.study_command.proofs.LineTaken.{Begins-more, ends_at_feed, stops_at_end, long_inside, gave-begun_lines, gave-ended, gave-last}
use Rattle.study_command.proofs.line.Line.read.Goals as goal

pub returns-in-Ok-Some-eq10-clause-line : goal.returns-in-Ok-Some-eq10-clause-line
returns-in-Ok-Some-eq10-clause-line g c =
    let mid = g.R.Read.remaining c.loop-self.script in
    let new = g.R.Read.remaining c.read_byte.new.script in
    let feed : Consumes mid new (10 ∷ []) = rw (c.in-Ok-Some-eq10.field-0-is, c.in-Ok-Some-eq10.field-0-0-test) at c.in-Ok-Some-eq10.ensures.some in
    ends_at_feed (g.R.Read.remaining c.args.script.now) mid new c.loop-self.self c.strip.new.self c.loop-self.invariant feed c.strip.ensures

pub returns-then-not-has_room_for-clause-long : goal.returns-then-not-has_room_for-clause-long
returns-then-not-has_room_for-clause-long g c = λ _.
    let mid = g.R.Read.remaining c.loop-self.script in
    let new = g.R.Read.remaining c.read_byte.new.script in
    let some : Consumes mid new (c.in-Ok-Some.byte ∷ []) = rw c.in-Ok-Some.field-0-is at c.in-Ok-Some.ensures.some in
    long_inside (g.R.Read.remaining c.args.script.now) mid new c.loop-self.self c.in-Ok-Some.byte
    c.loop-self.invariant some c.in-Ok-Some.byte-test.1 (rw c.has_room_for.ensures at c.if-not-has_room_for.true)

pub loop-self-preserved : goal.loop-self-preserved
loop-self-preserved g c =
    let mid = g.R.Read.remaining c.loop-self.script in
    let new = g.R.Read.remaining c.read_byte.new.script in
    let some : Consumes mid new (c.in-Ok-Some.byte ∷ []) = rw c.in-Ok-Some.field-0-is at c.in-Ok-Some.ensures.some in
    rw c.push.ensures (Begins-more (g.R.Read.remaining c.args.script.now) mid new c.loop-self.self c.in-Ok-Some.byte
    c.loop-self.invariant some c.in-Ok-Some.byte-test.1
    (rw c.has_room_for.ensures at c.if-not-has_room_for.false))

pub returns-clause-line : goal.returns-clause-line
returns-clause-line g c =
    let mid = g.R.Read.remaining c.loop-self.script in
    let new = g.R.Read.remaining c.read_byte.new.script in
    let end = rw c.in-Ok-None.field-0-is at c.in-Ok-None.ensures.end in
    stops_at_end (g.R.Read.remaining c.args.script.now) mid new c.loop-self.self c.strip-2.new.self
    c.is_empty-begins.result c.loop-self.invariant
    (c.is_empty-begins.ensures ∙ ap (λ xs. eqb (length xs) 0) c.as_slice.ensures) end.0 end.1 c.strip-2.ensures

pub returns-in-Err-clause-no_feed : goal.returns-in-Err-clause-no_feed
returns-in-Err-clause-no_feed g c =
    λ _. gave-begun_lines (g.R.Read.remaining c.args.script.now) (g.R.Read.remaining c.loop-self.script)
    (g.R.Read.remaining c.read_byte.new.script) c.loop-self.self c.loop-self.invariant c.in-Err.ensures.err

pub returns-in-Ok-Some-eq10-clause-one_feed : goal.returns-in-Ok-Some-eq10-clause-one_feed
returns-in-Ok-Some-eq10-clause-one_feed g c =
    let mid = g.R.Read.remaining c.loop-self.script in
    let new = g.R.Read.remaining c.read_byte.new.script in
    let feed : Consumes mid new (10 ∷ []) = rw (c.in-Ok-Some-eq10.field-0-is, c.in-Ok-Some-eq10.field-0-0-test) at c.in-Ok-Some-eq10.ensures.some in
    gave-ended (g.R.Read.remaining c.args.script.now) mid new c.loop-self.self c.loop-self.invariant feed

pub returns-clause-one_feed : goal.returns-clause-one_feed
returns-clause-one_feed g c =
    let end = rw c.in-Ok-None.field-0-is at c.in-Ok-None.ensures.end in
    gave-last (g.R.Read.remaining c.args.script.now) (g.R.Read.remaining c.loop-self.script)
    (g.R.Read.remaining c.read_byte.new.script) c.loop-self.self c.loop-self.invariant end.0

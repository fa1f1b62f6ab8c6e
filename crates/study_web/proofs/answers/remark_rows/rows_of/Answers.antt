use Rattle.std.proofs.Common.{◌≡◌, [], Some, refl, sym, subst, arith, ◌∙◌}
use Rattle.std.proofs.KnownBytes.{Consumes-nil}
use Rattle.study_command.specs.Lines.{script_lines}
use Rattle.study_command.proofs.LineTaken.{has_more, has_none, gave-more}
use Rattle.study_script.proofs.FirstLines.{Gone, gone_none, gone_long, gone_many, gone_more}
use Rattle.study_web.proofs.PositionsRead.{known_where_ok}
use Rattle.study_web.proofs.RowsRead.{row_more, row_none}
use Rattle.study_web.proofs.Unread.{no_memory}
use Rattle.study_web.proofs.answers.remark_rows.rows_of.Goals as goal

pub loop-n-init : goal.loop-n-init
loop-n-init g c = (
  rw c.new-text.ensures refl,
  ([], Consumes-nil (Some c.args.script.now), omega arith),
  gone_none (Some c.args.script.now),
)

pub loop-n-preserved : goal.loop-n-preserved
loop-n-preserved g c =
    let script = Some c.args.script.now in
    let now = Some c.loop-n.reader.now in
    let next = Some c.read.new.script.now in
    let taken = rw c.in-Ok-true.field-0-test at c.in-Ok-true.ensures.line in
    let added = known_where_ok c.add_row.result _ (sym c.is_err.ensures.value ∙ c.if-is_err.false) c.add_row.ensures in (
      row_more c.loop-n.n (script_lines c.args.script.now) (script_lines c.loop-n.reader.now) (script_lines c.read.new.script.now) c.read.new.self
          c.loop-n.text c.add_row.new.text c.loop-n.invariant.0 taken (rw c.as_slice.ensures at added),
      gave-more script now next c.loop-n.n 1 c.loop-n.invariant.1 c.in-Ok-true.ensures.one_feed,
      gone_more script now next c.read.new.self c.loop-n.n c.loop-n.invariant.2 taken c.in-Ok-true.ensures.short,
    )

pub returns-in-Err-Device-clause-err : goal.returns-in-Err-Device-clause-err
returns-in-Err-Device-clause-err g c = no_memory c.args.script.now

pub returns-in-Err-TooLong-clause-err : goal.returns-in-Err-TooLong-clause-err
returns-in-Err-TooLong-clause-err g c =
    let script = Some c.args.script.now in
    let now = Some c.loop-n.reader.now in
    let left = Some c.read.new.script.now in
    (tt, left, gone_long left script now c.loop-n.n c.loop-n.invariant.2 (c.in-Err-TooLong.ensures.long cc) c.loop-n-test.true)

pub returns-in-Ok-false-clause-ok : goal.returns-in-Ok-false-clause-ok
returns-in-Ok-false-clause-ok g c =
    let none = rw c.in-Ok-false.field-0-test at c.in-Ok-false.ensures.line in
    row_none c.loop-n.n (script_lines c.args.script.now) (script_lines c.loop-n.reader.now) c.loop-n.text c.loop-n.invariant.0 none

pub returns-in-Ok-None-clause-ok : goal.returns-in-Ok-None-clause-ok
returns-in-Ok-None-clause-ok g c =
    let end = rw c.in-Ok-None.field-0-is at c.in-Ok-None.ensures.end in
    let now = Some c.loop-n.reader.now in
    row_none c.loop-n.n (script_lines c.args.script.now) (script_lines c.loop-n.reader.now) c.loop-n.text c.loop-n.invariant.0
    (has_none now (Some c.read_byte.new.script.now) end.0 end.1)

pub returns-clause-err : goal.returns-clause-err
returns-clause-err g c =
    let some = rw c.in-Ok-Some.field-0-is at c.in-Ok-Some.ensures.some in
    let script = Some c.args.script.now in
    let now = Some c.loop-n.reader.now in
    let left = Some c.read_byte.new.script.now in
    let at : c.loop-n.n ≡ 100000 = omega arith in
    let gone = subst (λ k. Gone script now k) at c.loop-n.invariant.2 in
    (tt, left, gone_many left script now gone (has_more now left c.in-Ok-Some.field-0-0 some))

pub returns-in-Err-clause-err : goal.returns-in-Err-clause-err
returns-in-Err-clause-err g c = no_memory c.args.script.now

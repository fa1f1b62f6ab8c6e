use Rattle.std.proofs.Common.{List, subst, inl, inr}
use Rattle.study_web.specs.declared.file_spans.FileSpan.{FileSpan}
use Rattle.study_web.specs.Answers.{IsPrinted, IsOutOfMemory, IsUnread}
use Rattle.study_web.proofs.Denials.{no_value_end}
use Rattle.study_web.proofs.Unread.{no_memory}
use Rattle.study_web.proofs.dispatch.answer_report.Goals as goal

pub returns-in-Err : goal.returns-in-Err
returns-in-Err g c =
    let script = c.args.script.now in
    inl (no_value_end IsOutOfMemory (IsUnread script) c.in-Err.why c.answer_of.result.text.items c.answer_of.result.ended c.answer_of.ensures.none
    c.in-Err.ensures.none (no_memory script))

pub returns-in-Ok : goal.returns-in-Ok
returns-in-Ok g c =
    let reply = c.report_over.result in
    inr (
      c.in-Ok.those.items,
      c.in-Ok.ensures.some,
      subst (λ (those : List FileSpan). IsPrinted those c.args.files.now.bytes.now c.args.script.now reply.text.items reply.ended)
          c.as_slice.ensures.value c.report_over.ensures,
    )

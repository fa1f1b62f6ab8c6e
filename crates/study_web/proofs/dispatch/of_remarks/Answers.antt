use Rattle.std.proofs.Common.{◌≡◌}
use Rattle.study_command.specs.Lines.{script_lines}
use Rattle.study_web.specs.Answers.{IsOutOfMemory, IsUnread}
use Rattle.study_web.specs.RemarkRows.{rows_from}
use Rattle.study_web.proofs.Denials.{whole_reported}
use Rattle.study_web.proofs.Unread.{no_memory}
use Rattle.study_web.proofs.dispatch.of_remarks.Goals as goal

pub returns : goal.returns
returns g c =
    let script = c.args.script.now in
    whole_reported c.remarks_of.result (λ v. v.items) (λ text. text ≡ rows_from 1 (script_lines script)) IsOutOfMemory (IsUnread script)
    c.answer_of.result.text.items c.answer_of.result.ended c.answer_of.ensures.text c.answer_of.ensures.none c.remarks_of.ensures.text
    c.remarks_of.ensures.none (no_memory script)

use Rattle.study_command.specs.Lines.{script_lines}
use Rattle.study_web.specs.Answers.{IsOutOfMemory, IsUnread}
use Rattle.study_web.specs.Setup.{AreTables}
use Rattle.study_web.proofs.Denials.{whole_reported}
use Rattle.study_web.proofs.Unread.{no_memory}
use Rattle.study_web.proofs.dispatch.answer_tables.Goals as goal

pub returns : goal.returns
returns g c =
    let script = c.args.script.now in
    whole_reported c.tables_of.result (λ v. v.items) (AreTables (script_lines script)) IsOutOfMemory (IsUnread script)
    c.answer_of.result.text.items c.answer_of.result.ended c.answer_of.ensures.text c.answer_of.ensures.none c.tables_of.ensures.text c.tables_of.ensures.none
    (no_memory script)

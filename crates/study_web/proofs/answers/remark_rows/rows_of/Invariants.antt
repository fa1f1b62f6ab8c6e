use Rattle.std.proofs.Common.{◌≡◌, ◌+◌, ◌++◌, Some}
use Rattle.study_command.specs.Lines.{GaveFeeds, script_lines}
use Rattle.study_script.proofs.FirstLines.{Gone}
use Rattle.study_web.specs.RemarkRows.{rows_from}
use Rattle.study_web.proofs.answers.remark_rows.rows_of.Given as goal

abbrev pub invariant-loop-n : goal.invariant-loop-n
invariant-loop-n g l =
    (rows_from 1 (script_lines l.script) ≡ l.text ++ rows_from (l.n + 1) (script_lines l.reader))
    × GaveFeeds (Some l.script) (Some l.reader) l.n × Gone (Some l.script) (Some l.reader) l.n

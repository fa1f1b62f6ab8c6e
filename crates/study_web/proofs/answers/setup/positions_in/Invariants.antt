use Rattle.std.proofs.Common.{◌≡◌, ◌++◌, Some}
use Rattle.study_command.specs.Lines.{GaveFeeds, script_lines}
use Rattle.study_script.proofs.FirstLines.{Gone}
use Rattle.study_web.specs.Setup.{positions_in}
use Rattle.study_web.proofs.answers.setup.positions_in.Given as goal

abbrev pub invariant-loop-n : goal.invariant-loop-n
invariant-loop-n g l =
    (positions_in (script_lines l.script) ≡ l.list.items ++ positions_in (script_lines l.reader))
    × GaveFeeds (Some l.script) (Some l.reader) l.n × Gone (Some l.script) (Some l.reader) l.n

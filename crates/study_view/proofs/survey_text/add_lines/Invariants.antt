use Rattle.std.proofs.Common.{◌≡◌, ◌++◌, take}
use Rattle.std.specs.List.{flat_map}
use Rattle.study_view.specs.Survey.{standing_line}
use Rattle.study_view.proofs.survey_text.add_lines.Given as goal

abbrev pub invariant-loop-x : goal.invariant-loop-x
invariant-loop-x g l = l.text ≡ l.fn.text ++ flat_map (standing_line l.fn.question.position.now l.fn.question.square) (take l.x-index l.list)

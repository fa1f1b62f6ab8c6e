use Rattle.std.proofs.Common.{◌≡◌, ◌++◌, length}
use Rattle.std.specs.List.{flat_map}
use Rattle.study_text.specs.Words.{words}
use Rattle.study_web.specs.CoreWords.{name_line}
use Rattle.study_web.proofs.answers.core_words.add_names.Given as goal

-- the lines so far, and those of the names that are left, are all
abbrev pub invariant-loop-name : goal.invariant-loop-name
invariant-loop-name g l =
    l.text ++ flat_map (name_line l.group) (words l.rest) ≡ l.fn.text ++ flat_map (name_line l.group) (words l.names)

abbrev pub decreases-loop-name : goal.decreases-loop-name
decreases-loop-name g l = length (words l.rest)

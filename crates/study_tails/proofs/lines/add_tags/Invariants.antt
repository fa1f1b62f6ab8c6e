use Rattle.std.proofs.Common.{◌≡◌, ◌++◌, length, map}
use Rattle.std.specs.List.{flat_map}
use Rattle.study_tails.specs.Study.{text_of}
use Rattle.study_tails.specs.Lines.{line_of_tag, six_names}
use Rattle.study_tails.proofs.lines.add_tags.Given as goal

-- the lines so far, and those of the tags that are left
abbrev pub invariant-loop-rest : goal.invariant-loop-rest
invariant-loop-rest g l =
    l.out ++ flat_map (line_of_tag l.before (map text_of l.tags)) l.rest ≡ l.fn.out ++ flat_map (line_of_tag l.before (map text_of l.tags)) six_names

abbrev pub decreases-loop-rest : goal.decreases-loop-rest
decreases-loop-rest g l = length l.rest

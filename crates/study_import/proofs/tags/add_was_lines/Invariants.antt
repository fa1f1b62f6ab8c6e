use Rattle.std.proofs.Common.{◌≡◌, ◌++◌, length}
use Rattle.std.specs.List.{flat_map}
use Rattle.study_games.specs.Header.{tags_of}
use Rattle.study_import.specs.Blocks.{was_line, six_names}
use Rattle.study_import.proofs.tags.add_was_lines.Given as goal

abbrev pub invariant-loop-rest : goal.invariant-loop-rest
invariant-loop-rest g l = l.out ++ flat_map (was_line (tags_of l.game)) l.rest ≡ l.fn.out ++ flat_map (was_line (tags_of l.game)) six_names

abbrev pub decreases-loop-rest : goal.decreases-loop-rest
decreases-loop-rest g l = length l.rest

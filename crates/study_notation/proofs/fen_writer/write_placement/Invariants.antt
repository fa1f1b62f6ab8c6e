use Rattle.std.proofs.Common.{◌≡◌, ◌-◌, ◌++◌}
use Rattle.study_notation.specs.FenSpelling.{placement_text}
use Rattle.study_notation.proofs.RowText.{below}
use Rattle.study_notation.proofs.fen_writer.write_placement.Given as goal

abbrev pub invariant-loop-down : goal.invariant-loop-down
invariant-loop-down g l = l.out.bytes ++ below l.men (8 - l.down) ≡ placement_text l.men

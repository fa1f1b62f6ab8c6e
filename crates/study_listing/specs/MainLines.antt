-- Not part of any public contract: the moves of a row, if a study has room for them.
use Rattle.std.specs.Prelude.{List, [], length, nat_lt, if◌then◌else◌}
use Rattle.study_moves.specs.declared.moves.Move.{Move}

abbrev pub few_moves : List Move → List Move
few_moves row = if nat_lt 23 (length row) then [] else row

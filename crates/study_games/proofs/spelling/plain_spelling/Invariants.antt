use Rattle.std.proofs.Common.{◌≡◌, ◌≤◌, ◌+◌, ◌++◌, length}
use Rattle.std.specs.List.{flat_map}
use Rattle.arrayvec.specs.ArrayVec.{array_vec_len}
use Rattle.study_games.specs.Symbols.{plain_bytes, begins_castling, plain_spelling}
use Rattle.study_games.proofs.spelling.plain_spelling.Given as goal

abbrev pub invariant-loop-rest : goal.invariant-loop-rest
invariant-loop-rest l =
    (l.out.items ++ flat_map (plain_bytes (begins_castling l.text)) l.rest ≡ plain_spelling l.text) × (array_vec_len l.out + length l.rest ≤ 32)

abbrev pub decreases-loop-rest : goal.decreases-loop-rest
decreases-loop-rest l = length l.rest

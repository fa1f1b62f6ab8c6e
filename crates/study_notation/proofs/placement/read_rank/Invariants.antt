use Rattle.std.proofs.Common.{◌≡◌, ◌≤◌, ◌+◌, ◌++◌, take}
use Rattle.arrayvec.specs.ArrayVec.{array_vec_len}
use Rattle.study_notation.specs.Fen.{squares, men_from}
use Rattle.study_notation.proofs.PlacementParts.{RankSoFar}
use Rattle.study_notation.proofs.placement.read_rank.Given as goal

abbrev pub invariant-loop-b : goal.invariant-loop-b
invariant-loop-b l = RankSoFar l.part l.b-index l.file
    × (l.men.items ≡ l.initial.men.items ++ men_from l.first (squares (take l.b-index l.part)))
    × (array_vec_len l.men ≤ l.first + l.file)

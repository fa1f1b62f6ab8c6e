use Rattle.std.proofs.Common.{◌≡◌, ◌≤◌, ◌*◌}
use Rattle.std.specs.List.{slice_split}
use Rattle.arrayvec.specs.ArrayVec.{array_vec_len}
use Rattle.study_notation.specs.Fen.{placement}
use Rattle.study_notation.proofs.PlacementParts.{is_stroke, placed}
use Rattle.study_notation.proofs.placement.read_placement.Given as goal

abbrev pub invariant-loop-rank : goal.invariant-loop-rank
invariant-loop-rank l = (placed l.rank l.men.items (slice_split is_stroke l.rest) ≡ placement l.text) × (array_vec_len l.men ≤ 8 * l.rank)

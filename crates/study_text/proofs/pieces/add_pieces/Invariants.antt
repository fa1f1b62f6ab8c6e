use Rattle.std.proofs.Common.{◌≡◌, ◌++◌, length}
use Rattle.std.specs.List.{flat_map}
use Rattle.study_text.specs.Pieces.{piece_text}
use Rattle.study_text.proofs.pieces.add_pieces.Given as goal

abbrev pub invariant-loop-rest : goal.invariant-loop-rest
invariant-loop-rest g l = l.out ++ flat_map piece_text l.rest ≡ l.fn.out ++ flat_map piece_text l.pieces

abbrev pub decreases-loop-rest : goal.decreases-loop-rest
decreases-loop-rest g l = length l.rest

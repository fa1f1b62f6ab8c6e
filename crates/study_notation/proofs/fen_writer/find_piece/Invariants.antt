use Rattle.std.proofs.Common.{◌≡◌, drop}
use Rattle.study_notation.specs.FenSpelling.{piece_on}
use Rattle.study_notation.proofs.fen_writer.find_piece.Given as goal

abbrev pub invariant-loop-man : goal.invariant-loop-man
invariant-loop-man l = piece_on (drop l.man-index l.men) l.at ≡ piece_on l.men l.at

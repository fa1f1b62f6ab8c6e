-- The letters of the men, as in FEN, SAN and the names of classes.
use Rattle.std.specs.Prelude.{ℕ}
use Rattle.study_board.specs.declared.men.Kind.{Kind}
use Rattle.study_board.specs.declared.men.Kind.TheVariants.{King, Queen, Rook, Bishop, Knight, Pawn}

-- K, Q, R, B, N, P, as bytes
abbrev pub letter : Kind → ℕ
letter King = 75
letter Queen = 81
letter Rook = 82
letter Bishop = 66
letter Knight = 78
letter Pawn = 80

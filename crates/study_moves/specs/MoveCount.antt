-- The largest number of moves of a man.
use Rattle.std.specs.Prelude.{ℕ}
use Rattle.study_board.specs.declared.men.Kind.{Kind}
use Rattle.study_board.specs.declared.men.Kind.TheVariants.{King, Queen, Rook, Bishop, Knight, Pawn}

-- on an empty board from the best square; for a pawn, to three squares of its last rank with four choices each
abbrev pub most_moves : Kind → ℕ
most_moves King = 8
most_moves Queen = 27
most_moves Rook = 14
most_moves Bishop = 13
most_moves Knight = 8
most_moves Pawn = 12

-- The legal moves as a list, and whether the side to move is in check.
use Rattle.std.specs.Prelude.{ℕ, Bool, ◌&&◌, ◌==◌, List, length, filter}
use Rattle.study_board.specs.Position.{in_check}
use Rattle.study_moves.specs.declared.moves.Move.{Move}
use Rattle.study_moves.specs.LegalList.{moves_between, moves_from, all_moves}
use Rattle.study_wide.specs.Wide.{Wide}
use Rattle.study_wide.specs.Rules.{is_wide_legal}

-- of all moves, ascending by origin, then target, then promotion, the legal ones; castling is among them as the king's move of two squares
unfoldable pub wide_legal_list : Wide → List Move
wide_legal_list g = filter (is_wide_legal g) all_moves

-- those from a square, and those from a square to another
unfoldable pub legal_from : Wide → ℕ → List Move
legal_from g a = filter (is_wide_legal g) (moves_from a)

unfoldable pub legal_between : Wide → ℕ → ℕ → List Move
legal_between g a x = filter (is_wide_legal g) (moves_between a x)

abbrev pub is_in_check : Wide → Bool
is_in_check g = in_check g.board.men g.board.to_move

-- checkmate, by the list
abbrev pub is_wide_mate : Wide → Bool
is_wide_mate g = is_in_check g && length (wide_legal_list g) == 0

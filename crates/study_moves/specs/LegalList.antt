-- The legal moves as a list, checkmate by it, and captures.
use Rattle.std.specs.Prelude.{ℕ, Bool, ◌&&◌, ◌||◌, ◌==◌, List, [], ◌∷◌, length, map, filter, Option, Some, None}
use Rattle.std.specs.List.{flat_map, range_with_len}
use Rattle.study_board.specs.declared.men.Kind.{Kind}
use Rattle.study_board.specs.declared.men.Kind.TheVariants.{Queen, Rook, Bishop, Knight}
use Rattle.study_board.specs.declared.men.Man.{Man}
use Rattle.study_board.specs.Position.{Position, is_occupied, in_check}
use Rattle.study_moves.specs.declared.moves.Move.{Move}
use Rattle.study_moves.specs.Rules.{is_legal, is_en_passant}

abbrev pub choices : List (Option Kind)
choices = None ∷ Some Queen ∷ Some Rook ∷ Some Bishop ∷ Some Knight ∷ []

-- the moves from a square to a square
abbrev pub moves_between : ℕ → ℕ → List Move
moves_between a x = map (λ q. record { origin = a; target = x; promoted = q }) choices

abbrev pub moves_from : ℕ → List Move
moves_from a = flat_map (moves_between a) (range_with_len 0 64)

unfoldable pub all_moves : List Move
all_moves = flat_map moves_from (range_with_len 0 64)

-- the legal moves, ascending by origin, then target, then promotion: none, queen, rook, bishop, knight
unfoldable pub legal_list : Position → List Move
legal_list p = filter (is_legal p) all_moves

-- the side to move is checkmated
unfoldable pub is_mate : Position → Bool
is_mate p = in_check p.men p.to_move && length (legal_list p) == 0

-- a legal move of the man to the square is a capture: a man stands there, or the pawn takes in passing
unfoldable pub is_capture : Position → Man → ℕ → Bool
is_capture p man x = is_occupied p.men x || is_en_passant p.passed man x

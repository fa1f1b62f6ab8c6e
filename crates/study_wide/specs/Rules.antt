-- Which moves are legal with any number of men and with castling, and the position after a move.
use Rattle.std.specs.Prelude.{Bool, not, ◌&&◌, ◌||◌, nat_le, is_some, length, Option, Some, None, if◌then◌else◌}
use Rattle.study_board.specs.Men.{other_side}
use Rattle.study_board.specs.Position.{Position}
use Rattle.study_moves.specs.declared.moves.Move.{Move}
use Rattle.study_moves.specs.Rules.{is_legal, after}
use Rattle.study_wide.specs.declared.castling.Wing.{Wing}
use Rattle.study_wide.specs.declared.castling.Wing.TheVariants.{Short, Long}
use Rattle.study_wide.specs.declared.rights.Rights.{Rights}
use Rattle.study_wide.specs.Rights.{rights_after, no_rights}
use Rattle.study_wide.specs.Wide.{Wide}
use Rattle.study_wide.specs.Castling.{is_castling_move, can_castle, men_after_castling}

-- the move is the castling to that wing, and castling there is allowed
abbrev pub castles : Wide → Move → Wing → Bool
castles g m w = is_castling_move g.board.to_move w m && can_castle g w

-- the wing to which the move castles
abbrev pub wing_of : Wide → Move → Option Wing
wing_of g m = if castles g m Short then Some Short else (if castles g m Long then Some Long else None)

-- castling, or a move of one man as with four men
unfoldable pub is_wide_legal : Wide → Move → Bool
is_wide_legal g m = is_some (wing_of g m) || is_legal g.board m

abbrev pub board_after_castling : Position → Wing → Position
board_after_castling p w = record { men = men_after_castling p.men p.to_move w; to_move = other_side p.to_move; passed = None }

abbrev pub board_after : Wide → Move → Option Wing → Position
board_after g m None = after g.board m
board_after g m (Some w) = board_after_castling g.board w

-- the position after a move
unfoldable pub wide_after : Wide → Move → Wide
wide_after g m = record { board = board_after g m (wing_of g m); rights = rights_after g.rights m }

abbrev pub has_rights : Rights → Bool
has_rights r = r.white_short || r.white_long || r.black_short || r.black_long

-- at most four men, and no right to castle: a position as elsewhere
unfoldable pub is_small : Wide → Bool
is_small g = nat_le (length g.board.men) 4 && not (has_rights g.rights)

abbrev pub narrow : Wide → Option Position
narrow g = if is_small g then Some g.board else None

-- the position with no right to castle
abbrev pub widen : Position → Wide
widen p = record { board = p; rights = no_rights }

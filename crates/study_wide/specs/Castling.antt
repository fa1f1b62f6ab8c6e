-- Castling.
use Rattle.std.specs.Prelude.{ℕ, ◌+◌, Bool, true, false, not, ◌&&◌, ◌||◌, ◌==◌, List, map, Option, Some, None}
use Rattle.study_board.specs.declared.men.Side.{Side}
use Rattle.study_board.specs.declared.men.Side.TheVariants.{White, Black}
use Rattle.study_board.specs.declared.men.Kind.{Kind}
use Rattle.study_board.specs.declared.men.Man.{Man}
use Rattle.study_board.specs.Men.{other_side, moved_if, is_attacked}
use Rattle.study_board.specs.Position.{is_empty, in_check, in_order}
use Rattle.study_moves.specs.declared.moves.Move.{Move}
use Rattle.study_wide.specs.declared.castling.Wing.{Wing}
use Rattle.study_wide.specs.declared.castling.Wing.TheVariants.{Short, Long}
use Rattle.study_wide.specs.Rights.{has_right}
use Rattle.study_wide.specs.Wide.{Wide}

-- the square from which a king castles
abbrev pub home : Side → ℕ
home White = 4
home Black = 60

-- the square of the rook
abbrev pub corner : Side → Wing → ℕ
corner White Short = 7
corner White Long = 0
corner Black Short = 63
corner Black Long = 56

-- two squares from home, towards the rook
abbrev pub king_target : Side → Wing → ℕ
king_target White Short = 6
king_target White Long = 2
king_target Black Short = 62
king_target Black Long = 58

-- the square that the king crosses
abbrev pub rook_target : Side → Wing → ℕ
rook_target White Short = 5
rook_target White Long = 3
rook_target Black Short = 61
rook_target Black Long = 59

abbrev pub is_short : Wing → Bool
is_short Short = true
is_short Long = false

-- no man stands between king and rook
unfoldable pub is_clear : List Man → Side → Wing → Bool
is_clear men side w =
    is_empty men (king_target side w) && is_empty men (rook_target side w) && (is_short w || is_empty men (corner side w + 1))

-- a man after castling: the king and the rook on their targets, any other where it was
abbrev pub man_after_castling : Side → Wing → Man → Man
man_after_castling side w m = moved_if (home side) (king_target side w) (moved_if (corner side w) (rook_target side w) m)

-- the men after castling
unfoldable pub men_after_castling : List Man → Side → Wing → List Man
men_after_castling men side w = in_order (map (man_after_castling side w) men)

-- the king's square and the one that it crosses are not attacked
unfoldable pub is_crossing_safe : List Man → Side → Wing → Bool
is_crossing_safe men side w = not (is_attacked men (other_side side) (home side)) && not (is_attacked men (other_side side) (rook_target side w))

-- the side to move may castle to this wing: it has the right, no man is in between, and its king is attacked neither before, nor on its way, nor after
unfoldable pub can_castle : Wide → Wing → Bool
can_castle g w =
    has_right g.rights g.board.to_move w
    && (is_clear g.board.men g.board.to_move w
    && (is_crossing_safe g.board.men g.board.to_move w
    && not (in_check (men_after_castling g.board.men g.board.to_move w) g.board.to_move)))

abbrev pub no_promotion : Option Kind → Bool
no_promotion None = true
no_promotion (Some k) = false

-- the king's move of two squares by which castling is named
abbrev pub is_castling_move : Side → Wing → Move → Bool
is_castling_move side w m = (m.origin == home side) && (m.target == king_target side w) && no_promotion m.promoted

abbrev pub castling_move : Side → Wing → Move
castling_move side w = record { origin = home side; target = king_target side w; promoted = None }

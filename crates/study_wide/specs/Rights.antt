-- Rights to castle, and how they are lost.
use Rattle.std.specs.Prelude.{ℕ, Bool, false, not, ◌&&◌, ◌||◌, ◌==◌, List}
use Rattle.study_board.specs.declared.men.Side.{Side}
use Rattle.study_board.specs.declared.men.Side.TheVariants.{White, Black}
use Rattle.study_board.specs.declared.men.Kind.TheVariants.{King, Rook}
use Rattle.study_board.specs.declared.men.Man.{Man}
use Rattle.study_board.specs.Position.{has_man}
use Rattle.study_moves.specs.declared.moves.Move.{Move}
use Rattle.study_wide.specs.declared.castling.Wing.{Wing}
use Rattle.study_wide.specs.declared.castling.Wing.TheVariants.{Short, Long}
use Rattle.study_wide.specs.declared.rights.Rights.{Rights}

abbrev pub no_rights : Rights
no_rights = record { white_short = false; white_long = false; black_short = false; black_long = false }

abbrev pub has_right : Rights → Side → Wing → Bool
has_right r White Short = r.white_short
has_right r White Long = r.white_long
has_right r Black Short = r.black_short
has_right r Black Long = r.black_long

-- the move begins or ends on the square
abbrev pub touches : Move → ℕ → Bool
touches m x = (m.origin == x) || (m.target == x)

-- a right is lost for good when its king or its rook moves, or its rook is captured
abbrev pub rights_after : Rights → Move → Rights
rights_after r m = record {
  white_short = r.white_short && not (touches m 4) && not (touches m 7);
  white_long = r.white_long && not (touches m 4) && not (touches m 0);
  black_short = r.black_short && not (touches m 60) && not (touches m 63);
  black_long = r.black_long && not (touches m 60) && not (touches m 56);
}

-- a right that is held has its king and its rook in place
abbrev pub fits : Bool → List Man → Side → ℕ → ℕ → Bool
fits held men side king rook = not held || (has_man men side King king && has_man men side Rook rook)

unfoldable pub rights_fit : List Man → Rights → Bool
rights_fit men r =
    fits r.white_short men White 4 7 && fits r.white_long men White 4 0 && fits r.black_short men Black 60 63 && fits r.black_long men Black 60 56

-- The legal move that a SAN text means.
use Rattle.std.specs.Prelude.{ℕ, Bool, false, ◌&&◌, ◌==◌, List, ◌∷◌, Option, Some, None, Result, Ok, Err, if◌then◌else◌}
use Rattle.study_moves.specs.declared.moves.Move.{Move}
use Rattle.study_notation.specs.declared.fault.SanFault.{SanFault}
use Rattle.study_notation.specs.declared.fault.SanFault.TheVariants.{NoSuchMove}
use Rattle.study_notation.specs.San.{is_ending}
use Rattle.study_notation.specs.Matching.{move_of}
use Rattle.study_wide.specs.declared.castling.Wing.{Wing}
use Rattle.study_wide.specs.declared.castling.Wing.TheVariants.{Short, Long}
use Rattle.study_wide.specs.Wide.{Wide}
use Rattle.study_wide.specs.Castling.{can_castle, castling_move}

-- a dash, this byte and an ending
abbrev pub is_long : ℕ → List ℕ → Bool
is_long o (d ∷ e ∷ rest) = d == 45 && e == o && is_ending rest
is_long o _ = false

-- `-O` and an ending, or an ending, behind `O-O`
unfoldable pub wing_behind : ℕ → List ℕ → Option Wing
wing_behind o rest = if is_long o rest then Some Long else (if is_ending rest then Some Short else None)

-- `O-O-O` or `O-O`, spelled with this byte, and an ending
abbrev pub wing_spelled_with : ℕ → List ℕ → Option Wing
wing_spelled_with o (a ∷ b ∷ c ∷ rest) = if a == o && b == 45 && c == o then wing_behind o rest else None
wing_spelled_with o _ = None

abbrev pub wing_or : Option Wing → Option Wing → Option Wing
wing_or (Some w) v = Some w
wing_or None v = v

-- the wing of a text of castling, with letters or with digits
unfoldable pub castling_wing : List ℕ → Option Wing
castling_wing text = wing_or (wing_spelled_with 79 text) (wing_spelled_with 48 text)

abbrev pub wide_move_meant : Wide → List ℕ → Option Wing → Result Move SanFault
wide_move_meant g text (Some w) = if can_castle g w then Ok (castling_move g.board.to_move w) else Err NoSuchMove
wide_move_meant g text None = move_of g.board text

-- castling where the text is its text, otherwise the only legal move of one man that matches the text; or why there is none
unfoldable pub wide_move_of : Wide → List ℕ → Result Move SanFault
wide_move_of g text = wide_move_meant g text (castling_wing text)

-- Words of moves and values, as plain text.
use Rattle.std.specs.Prelude.{ℕ, ◌+◌, ◌/◌, ◌%◌, ◌==◌, nat_lt, Bool, not, List, [], ◌++◌, if◌then◌else◌, codes, decimal}
use Rattle.study_board.specs.declared.men.Side.{Side}
use Rattle.study_board.specs.declared.men.Side.TheVariants.{White, Black}
use Rattle.study_board.specs.Position.{Position}
use Rattle.study_moves.specs.declared.moves.Move.{Move}
use Rattle.study_notation.specs.declared.start.Start.{Start}
use Rattle.study_notation.specs.SanSpelling.{move_text}
use Rattle.study_values.specs.declared.value.Value.{Value}
use Rattle.study_values.specs.declared.value.Value.TheVariants.{Win, Loss, Draw}
use Rattle.study_pgn.specs.Moves.{move_dots}

-- a study has at most 256 plies
abbrev pub plies_of : ℕ → ℕ
plies_of d = if nat_lt d 257 then d else 256

abbrev pub first_ply_offset : Side → ℕ
first_ply_offset White = 0
first_ply_offset Black = 1

-- the number of the move that is made at depth d of a study: it rises after Black's move
unfoldable pub number_at : Start → ℕ → ℕ
number_at s d = s.number + (plies_of d + first_ply_offset s.position.to_move) / 2

-- `3. ` or `3... `, before a move of this side
unfoldable pub front_words : Start → ℕ → Side → List ℕ
front_words s d side = decimal (number_at s d) ++ (move_dots side ++ codes " ")

-- `-` before what is not the hero's
abbrev pub minus_where : Bool → List ℕ
minus_where b = if b then codes "-" else []

-- in how many moves the hero mates, or is mated after a minus; `=` where it is drawn, and `#` where it is mate
abbrev pub short_words : Bool → Value → List ℕ
short_words hero Draw = codes "="
short_words hero (Win n) = minus_where (not hero) ++ decimal (n / 2 + n % 2)
short_words hero (Loss n) = if n == 0 then codes "#" else (minus_where hero ++ decimal (n / 2))

-- `3. Kb4`
unfoldable pub label : Start → ℕ → Position → Move → List ℕ
label s d p m = front_words s d p.to_move ++ move_text p m

-- The line of a position, and its study as a script.
use Rattle.std.specs.Prelude.{ℕ, List, [], ◌∷◌, ◌++◌, Option, Some, None, codes}
use Rattle.study_board.specs.declared.men.Side.{Side}
use Rattle.study_board.specs.declared.men.Side.TheVariants.{White, Black}
use Rattle.study_board.specs.Men.{other_side}
use Rattle.study_board.specs.Position.{Position}
use Rattle.study_moves.specs.declared.moves.Move.{Move}
use Rattle.study_moves.specs.Rules.{after}
use Rattle.study_values.specs.declared.value.Value.{Value}
use Rattle.study_values.specs.declared.value.Value.TheVariants as value
use Rattle.study_notation.specs.FenSpelling.{fen_text}
use Rattle.study_notation.specs.SanSpelling.{move_text}
use Rattle.study_marks.specs.Marks.{value_words}
use Rattle.study_listing.specs.declared.facts.Facts.{Facts}

-- the position alone, without move counters
abbrev pub fen_of : Position → List ℕ
fen_of p = fen_text (record { position = p; clock = 0; number = 1 })

-- ` loss 4`
abbrev pub value_after : Option Value → List ℕ
value_after None = []
value_after (Some v) = 32 ∷ value_words v

-- ` Kd3`
abbrev pub move_after : Position → Option Move → List ℕ
move_after p None = []
move_after p (Some m) = 32 ∷ move_text p m

-- `FEN VALUE`, then the value with the other side to move, or the only move that holds
unfoldable pub line_of : Position → Facts → List ℕ
line_of p f = fen_of p ++ (value_after (Some f.value) ++ (value_after f.other ++ (move_after p f.key ++ 10 ∷ [])))

-- the side that wins; in a draw the side to move
abbrev pub hero_of : Side → Value → Side
hero_of side (value.Win n) = side
hero_of side (value.Loss n) = other_side side
hero_of side value.Draw = side

abbrev pub side_named : Side → List ℕ
side_named White = codes "white"
side_named Black = codes "black"

abbrev pub goal_named : Value → List ℕ
goal_named (value.Win n) = codes "win"
goal_named (value.Loss n) = codes "win"
goal_named value.Draw = codes "draw"

-- the stipulation, on a line of its own
unfoldable pub stipulation_line : Side → Value → List ℕ
stipulation_line side v = codes "stipulate " ++ (side_named (hero_of side v) ++ (32 ∷ (goal_named v ++ 10 ∷ [])))

-- `insert 0.0 Kd3`: a move in the position of a node
abbrev pub insert_line : List ℕ → Position → Move → List ℕ
insert_line node p m = codes "insert " ++ (node ++ (32 ∷ (move_text p m ++ 10 ∷ [])))

-- moves in turn from a node that is no root; each is the first below the one before
abbrev pub lines_below : List ℕ → Position → List Move → List ℕ
lines_below node p [] = []
lines_below node p (m ∷ ms) = insert_line node p m ++ lines_below (node ++ codes ".0") (after p m) ms

-- moves in turn from the start: at `root`, `0`, `0.0`, `0.0.0` ..
abbrev pub main_line : Position → List Move → List ℕ
main_line p [] = []
main_line p (m ∷ ms) = insert_line (codes "root") p m ++ lines_below (codes "0") (after p m) ms

-- `position FEN`, `stipulate SIDE win` or `draw`, an `insert` line for each move, and `pgn`
unfoldable pub study_of : Position → Value → List Move → List ℕ
study_of p v row = codes "position " ++ (fen_of p ++ (10 ∷ (stipulation_line p.to_move v ++ (main_line p row ++ codes "pgn\n"))))

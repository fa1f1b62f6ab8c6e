-- How many only moves in a row the defender can make the side to move find, and a row of so many, as a text.
use Rattle.std.specs.Prelude.{◌≡◌, ℕ, List, [], ◌∷◌, ◌++◌, codes, decimal, Option, Some, None}
use Rattle.study_board.specs.Position.{Position}
use Rattle.study_moves.specs.declared.moves.Move.{Move}
use Rattle.study_moves.specs.Rules.{after}
use Rattle.study_notation.specs.SanSpelling.{move_text}
use Rattle.study_search.specs.declared.only_moves.Outcome.{Outcome}
use Rattle.study_search.specs.declared.rows.LongestRow.{LongestRow}
use Rattle.study_search.specs.OnlyMoves.{IsMost}
use Rattle.study_search.specs.Rows.{IsRow}
use Rattle.study_web.specs.Reported.{line_of}

-- ` Kf7 Kb6 Ke7`: moves in turn, a blank before each
abbrev pub moves_text : Position → List Move → List ℕ
moves_text p [] = []
moves_text p (m ∷ ms) = 32 ∷ (move_text p m ++ moves_text (after p m) ms)

-- `2 Kf7 Kb6 Ke7`
abbrev pub row_text : Position → ℕ → List Move → List ℕ
row_text p n row = line_of (decimal n ++ moves_text p row)

-- `none` if the side to move has not the outcome; else the number, and the row of so many
abbrev pub IsRowText : Outcome → Position → Option ℕ → List ℕ → Type 0
IsRowText o p None text = text ≡ line_of (codes "none")
IsRowText o p (Some n) text = (row : List Move) × IsRow o n p row × (text ≡ row_text p n row)

-- the greatest number of only moves in a row, counted up to twelve, and a row of so many; or the side to move has not the outcome
abbrev pub IsFoundRow : Outcome → Position → Option LongestRow → Type 0
IsFoundRow o p None = IsMost o p 12 None
IsFoundRow o p (Some f) = IsMost o p 12 (Some f.count) × IsRow o f.count p f.row.items

-- the greatest number of only moves in a row, counted up to twelve, and a row
abbrev pub IsRowAnswer : Outcome → Position → List ℕ → Type 0
IsRowAnswer o p text = (most : Option ℕ) × IsMost o p 12 most × IsRowText o p most text

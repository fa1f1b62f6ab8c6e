-- The words of replies.
use Rattle.std.specs.Prelude.{ℕ, ◌-◌, ◌==◌, Bool, false, List, [], ◌∷◌, ◌++◌, length, Option, Some, None, codes, decimal, if◌then◌else◌}
use Rattle.std.specs.List.{flat_map}
use Rattle.study_board.specs.Position.{Position, in_check}
use Rattle.study_moves.specs.declared.moves.Move.{Move}
use Rattle.study_material.specs.declared.class.Class.{Class}
use Rattle.study_material.specs.Class.{name_of}
use Rattle.study_values.specs.Number.{cells_of}
use Rattle.study_moves.specs.LegalList.{legal_list}
use Rattle.study_notation.specs.SanSpelling.{move_text}
use Rattle.study_marks.specs.declared.stipulation.Goal.{Goal}
use Rattle.study_marks.specs.declared.stipulation.Goal.TheVariants.{Win, Draw, MateIn}
use Rattle.study_marks.specs.declared.stipulation.Stipulation.{Stipulation}
use Rattle.study_marks.specs.declared.mark.Mark.{Mark}
use Rattle.study_board.specs.declared.men.Side.{Side}
use Rattle.study_board.specs.declared.men.Side.TheVariants.{White, Black}
use Rattle.study_marks.specs.Marks.{value_words, on_move_text}
use Rattle.study_text.specs.Paths.{path_text}

-- words and a line feed
abbrev pub reply_line : List ℕ → List ℕ → List ℕ
reply_line front back = front ++ (back ++ 10 ∷ [])

-- the last byte is a line feed
abbrev pub ends_line : List ℕ → Bool
ends_line [] = false
ends_line (b ∷ []) = b == 10
ends_line (b ∷ c ∷ more) = ends_line (c ∷ more)

abbrev pub side_word : Side → List ℕ
side_word White = codes "White"
side_word Black = codes "Black"

abbrev pub goal_words : Goal → List ℕ
goal_words Win = codes "win"
goal_words Draw = codes "draw"
goal_words (MateIn k) = codes "mate in " ++ decimal k

-- `stipulate White to win`
abbrev pub stipulation_words : Stipulation → List ℕ
stipulation_words s = codes "stipulate " ++ side_word s.hero ++ reply_line (codes " to ") (goal_words s.goal)

-- `mark 0 loss 0 dual 21 faults 1`: the path, the words of the value and of the move, and the number of faults
abbrev pub marked_text : List ℕ → List ℕ → List ℕ → ℕ → List ℕ
marked_text steps value on_move faults =
    codes "mark " ++ (path_text steps ++ (32 ∷ (value ++ (32 ∷ (on_move ++ reply_line (codes " faults ") (decimal faults))))))

abbrev pub mark_text : List ℕ → Mark → List ℕ
mark_text steps m = marked_text steps (value_words m.value) (on_move_text m.on_move) m.faults

-- the moves, each after a space
abbrev pub moves_listed : Position → List Move → List ℕ
moves_listed p ms = flat_map (λ m. 32 ∷ move_text p m) ms

abbrev pub list_text : Position → List Move → List ℕ
list_text p [] = if in_check p.men p.to_move then codes "moves 0 mate\n" else codes "moves 0 stalemate\n"
list_text p (m ∷ ms) = codes "moves " ++ reply_line (decimal (length (m ∷ ms))) (moves_listed p (m ∷ ms))

abbrev pub moves_text : Position → List ℕ
moves_text p = list_text p (legal_list p)

abbrev pub solve_text : Option ℕ → List ℕ
solve_text None = codes "solve none\n"
solve_text (Some plies) = reply_line (codes "solve plies ") (decimal plies)

-- `insert 0.1 Qg8#`
abbrev pub insert_text : List ℕ → List ℕ → List ℕ
insert_text steps san = codes "insert " ++ path_text steps ++ reply_line (codes " ") san

abbrev pub win_text : Option ℕ → List ℕ
win_text None = codes "-"
win_text (Some plies) = decimal plies

-- `built KQK cells 81920 win 19`
abbrev pub built_text : Class → Option ℕ → List ℕ
built_text c win = codes "built " ++ (name_of c ++ (codes " cells " ++ (decimal (cells_of c) ++ reply_line (codes " win ") (win_text win))))

-- `loaded KRK cells 81920`
abbrev pub loaded_text : Class → List ℕ
loaded_text c = codes "loaded " ++ name_of c ++ reply_line (codes " cells ") (decimal (cells_of c))

-- `saved KRK bytes 82624`
abbrev pub saved_text : Class → ℕ → List ℕ
saved_text c bytes = codes "saved " ++ name_of c ++ reply_line (codes " bytes ") (decimal bytes)

-- `verified KRK yes`
abbrev pub verified_text : Class → List ℕ
verified_text c = codes "verified " ++ name_of c ++ codes " yes\n"

-- the path of a node after it moved up by one place
abbrev pub path_after_move_up : List ℕ → List ℕ
path_after_move_up [] = []
path_after_move_up (k ∷ []) = (k - 1) ∷ []
path_after_move_up (k ∷ j ∷ js) = k ∷ path_after_move_up (j ∷ js)

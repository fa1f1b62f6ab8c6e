-- The result of a stipulation with a man on each other square.
use Rattle.std.specs.Prelude.{◌≡◌, ℕ, ◌==◌, not, Bool, true, false, List, [], ◌∷◌, ◌++◌, length, map, codes, decimal}
use Rattle.std.specs.Prelude.{Option, Some, None, MatchOption, if◌then◌else◌}
use Rattle.std.specs.List.{filter, flat_map, range_with_len}
use Rattle.study_board.specs.declared.men.Man.{Man}
use Rattle.study_board.specs.declared.men.Side.{Side}
use Rattle.study_board.specs.declared.fault.PositionFault.{PositionFault}
use Rattle.study_board.specs.Letters.{letter}
use Rattle.study_board.specs.Men.{same_side, moved_if}
use Rattle.study_board.specs.Position.{Position, in_order, man_at, could_be_passed, first_fault}
use Rattle.study_notation.specs.FenSpelling.{square_text}
use Rattle.study_notation.specs.SanSpelling.{move_text}
use Rattle.study_values.specs.declared.value.Value.{Value}
use Rattle.study_values.specs.Game.{IsValueOf}
use Rattle.study_marks.specs.declared.mark_rules.Aim.{Aim}
use Rattle.study_marks.specs.declared.stipulation.Stipulation.{Stipulation}
use Rattle.study_marks.specs.Goals.{holds}
use Rattle.study_marks.specs.Marks.{value_words}
use Rattle.study_pgn.specs.Pgn.{stipulation_text}
use Rattle.study_facts.specs.declared.continuation.EvaluatedMove.{EvaluatedMove}
use Rattle.study_facts.specs.Continuations.{AreHoldingMoves}
use Rattle.study_view.specs.declared.survey_squares.SquareResult.{SquareResult}
use Rattle.study_view.specs.declared.survey_squares.SquareResult.TheVariants.{Impossible, Fails, Holds, HoldsBy, Only}
use Rattle.study_view.specs.declared.survey_squares.SurveyedSquare.{SurveyedSquare}

-- the men, with the man of one square moved to another
abbrev pub moved_men : ℕ → ℕ → List Man → List Man
moved_men from to men = map (moved_if from to) men

-- the square that a pawn has passed, if with these men one can have passed it
abbrev pub still_passed : List Man → Side → Option ℕ → Option ℕ
still_passed men to_move None = None
still_passed men to_move (Some x) = if could_be_passed men to_move x then Some x else None

abbrev pub passed_with_man_moved : Position → ℕ → ℕ → Option ℕ
passed_with_man_moved p from to = still_passed (moved_men from to p.men) p.to_move p.passed

-- the position with the man of one square on another; a passed square is dropped if no pawn can have passed it there
abbrev pub with_man_moved : Position → ℕ → ℕ → Position
with_man_moved p from to = record { men = in_order (moved_men from to p.men); to_move = p.to_move; passed = passed_with_man_moved p from to }

-- why that is not a valid position, or `None`
abbrev pub fault_of_man_moved : Position → ℕ → ℕ → Option PositionFault
fault_of_man_moved p from to = first_fault (moved_men from to p.men) p.to_move (passed_with_man_moved p from to)

abbrev pub aim_in : Stipulation → Position → Aim
aim_in st q = record { goal = st.goal; hero_first = same_side st.hero q.to_move }

-- the result from the hero's first moves that hold: the only one, or their number
abbrev pub result_by_moves : Value → List EvaluatedMove → SquareResult
result_by_moves v [] = HoldsBy v 0
result_by_moves v (x ∷ []) = Only v x.played
result_by_moves v (x ∷ y ∷ l) = HoldsBy v (length (x ∷ y ∷ l))

-- the result for a position with the value v: whether the stipulation holds, and whether the hero is to move
abbrev pub IsResultBy : Bool → Bool → Aim → Position → Value → SquareResult → Type 0
IsResultBy false hero a q v standing = standing ≡ Fails v
IsResultBy true false a q v standing = standing ≡ Holds v
IsResultBy true true a q v standing = (list : List EvaluatedMove) × AreHoldingMoves a 0 q list × (standing ≡ result_by_moves v list)

abbrev pub IsResult : Stipulation → Position → SquareResult → Type 0
IsResult st q standing = (v : Value) × IsValueOf q v × IsResultBy (holds (aim_in st q) 0 v) (aim_in st q).hero_first (aim_in st q) q v standing

-- the result for the man on the square x
abbrev pub IsStanding : Position → ℕ → Stipulation → ℕ → SquareResult → Type 0
IsStanding p from st x standing = MatchOption (fault_of_man_moved p from x) (IsResult st (with_man_moved p from x) standing) (λ fault. standing ≡ Impossible)

abbrev pub AreStandings : Position → ℕ → Stipulation → List ℕ → List SurveyedSquare → Type 0
AreStandings p from st [] [] = Unit {0}
AreStandings p from st [] (y ∷ ys) = ⊥
AreStandings p from st (x ∷ xs) [] = ⊥
AreStandings p from st (x ∷ xs) (y ∷ ys) = (y.at ≡ x) × IsStanding p from st x y.standing × AreStandings p from st xs ys

-- n squares from one on, without this one
abbrev pub squares_but : ℕ → ℕ → ℕ → List ℕ
squares_but from first n = filter (λ x. not (x == from)) (range_with_len first n)

-- a1, b1 up to h8, without the man's own square
abbrev pub other_squares : ℕ → List ℕ
other_squares from = squares_but from 0 64

-- `survey Kh2 White to win`
unfoldable pub survey_line : Man → Stipulation → List ℕ
survey_line man st = codes "survey " ++ (letter man.kind ∷ (square_text man.at ++ (codes " " ++ (stipulation_text st ++ codes "\n"))))

abbrev pub square_result_text : Position → SquareResult → List ℕ
square_result_text q Impossible = codes "-"
square_result_text q (Fails v) = codes "fails " ++ value_words v
square_result_text q (Holds v) = codes "holds " ++ value_words v
square_result_text q (HoldsBy v n) = codes "holds " ++ (value_words v ++ (codes " " ++ decimal n))
square_result_text q (Only v m) = codes "only " ++ (value_words v ++ (codes " " ++ move_text q m))

-- `g2 only win 55 Kg3`
unfoldable pub standing_line : Position → ℕ → SurveyedSquare → List ℕ
standing_line p from x = square_text x.at ++ (codes " " ++ (square_result_text (with_man_moved p from x.at) x.standing ++ codes "\n"))

-- the survey of the man on a square
abbrev pub IsSurvey : Position → ℕ → Stipulation → List ℕ → Type 0
IsSurvey p from st text =
    (man : Man) × (list : List SurveyedSquare)
    × (man_at p.men from ≡ Some man)
    × AreStandings p from st (other_squares from) list
    × (text ≡ survey_line man st ++ flat_map (standing_line p from) list)

-- a man has exactly one survey
abbrev pub SurveysAreUnique : Type 0
SurveysAreUnique = (p : Position) (from : ℕ) (st : Stipulation) (t u : List ℕ) → IsSurvey p from st t → IsSurvey p from st u → t ≡ u

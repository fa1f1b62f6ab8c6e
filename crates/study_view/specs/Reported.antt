-- The meaning of a survey, in terms of the game.
use Rattle.std.specs.Prelude.{◌≡◌, ℕ, true, List, ◌↔◌}
use Rattle.std.specs.List.{Contains}
use Rattle.study_board.specs.Men.{same_side}
use Rattle.study_board.specs.Position.{Position, IsValid}
use Rattle.study_moves.specs.declared.moves.Move.{Move}
use Rattle.study_moves.specs.Rules.{is_legal, after}
use Rattle.study_values.specs.declared.value.Value.{Value}
use Rattle.study_values.specs.Game.{IsValueOf}
use Rattle.study_marks.specs.Goals.{holds}
use Rattle.study_marks.specs.declared.stipulation.Stipulation.{Stipulation}
use Rattle.study_view.specs.declared.survey_squares.SquareResult.TheVariants.{Only}
use Rattle.study_view.specs.declared.survey_squares.SurveyedSquare.{SurveyedSquare}
use Rattle.study_view.specs.Survey.{with_man_moved, aim_in, other_squares, AreStandings}

-- m is a legal move of q after which the stipulation holds, by the game's value
pub record Keeps (st : Stipulation) (q : Position) (m : Move) : Type 0 where
  pub legal : is_legal q m ≡ true
  pub value : Value
  pub of_game : IsValueOf (after q m) value
  pub holding : holds (aim_in st q) 1 value ≡ true

-- With the man on x there is a valid position with the hero to move; the stipulation holds in it, by its value v; and of all moves m alone
-- keeps it.
pub record IsOnlyWay (p : Position) (from : ℕ) (st : Stipulation) (x : ℕ) (v : Value) (m : Move) : Type 0 where
  pub valid : IsValid (with_man_moved p from x)
  pub hero : same_side st.hero p.to_move ≡ true
  pub of_game : IsValueOf (with_man_moved p from x) v
  pub holding : holds (aim_in st (with_man_moved p from x)) 0 v ≡ true
  pub keeps : Keeps st (with_man_moved p from x) m
  pub alone : (n : Move) → Keeps st (with_man_moved p from x) n → n ≡ m

-- a square is written `only` exactly if this holds
abbrev pub SurveysTellTheGame : Type 0
SurveysTellTheGame =
    (p : Position) (from : ℕ) (st : Stipulation) (list : List SurveyedSquare) → IsValid p → AreStandings p from st (other_squares from) list
    → (y : SurveyedSquare) → Contains list y → (v : Value) (m : Move) → (y.standing ≡ Only v m) ↔ IsOnlyWay p from st y.at v m

-- Not part of any public contract: standings whose move can be written.
use Rattle.std.specs.Prelude.{◌≡◌, ℕ, true, None}
use Rattle.study_board.specs.Position.{Position}
use Rattle.study_moves.specs.Rules.{is_legal}
use Rattle.study_view.specs.declared.survey_squares.SquareResult.{SquareResult}
use Rattle.study_view.specs.declared.survey_squares.SquareResult.TheVariants.{Impossible, Fails, Holds, HoldsBy, Only}
use Rattle.study_view.specs.declared.survey_squares.SurveyedSquare.{SurveyedSquare}
use Rattle.study_view.specs.Survey.{with_man_moved, fault_of_man_moved}

-- the only move that holds is legal
abbrev pub IsPlayedIn : Position → SquareResult → Type 0
IsPlayedIn q Impossible = Unit {0}
IsPlayedIn q (Fails v) = Unit {0}
IsPlayedIn q (Holds v) = Unit {0}
IsPlayedIn q (HoldsBy v n) = Unit {0}
IsPlayedIn q (Only v m) = is_legal q m ≡ true

-- and if there is one, the man can stand there
abbrev pub CanStand : Position → ℕ → ℕ → SquareResult → Type 0
CanStand p from x Impossible = Unit {0}
CanStand p from x (Fails v) = fault_of_man_moved p from x ≡ None
CanStand p from x (Holds v) = fault_of_man_moved p from x ≡ None
CanStand p from x (HoldsBy v n) = fault_of_man_moved p from x ≡ None
CanStand p from x (Only v m) = fault_of_man_moved p from x ≡ None

abbrev pub IsShown : Position → ℕ → SurveyedSquare → Type 0
IsShown p from y = CanStand p from y.at y.standing × IsPlayedIn (with_man_moved p from y.at) y.standing

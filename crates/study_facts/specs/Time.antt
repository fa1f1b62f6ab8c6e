-- The other moves of the hero that hold, each with the time that it loses.
use Rattle.std.specs.Prelude.{◌≡◌, ℕ, List, [], ◌∷◌, Option, None}
use Rattle.study_board.specs.Position.{Position}
use Rattle.study_moves.specs.declared.moves.Move.{Move}
use Rattle.study_moves.specs.Rules.{after}
use Rattle.study_marks.specs.declared.mark_rules.Aim.{Aim}
use Rattle.study_marks.specs.declared.stipulation.Goal.{Goal}
use Rattle.study_marks.specs.declared.stipulation.Goal.TheVariants.{Win, Draw, MateIn}
use Rattle.study_facts.specs.declared.continuation.EvaluatedMove.{EvaluatedMove}
use Rattle.study_facts.specs.declared.time_loss.Alternative.{Alternative}
use Rattle.study_facts.specs.Continuations.{AreAlternatives}
use Rattle.study_facts.specs.Repetition.{IsWasteOfTime}

-- the time that is lost by a move to q: given if the hero is to win, `None` for any other goal
abbrev pub IsTimeGiven : Goal → List Position → Position → Option ℕ → Type 0
IsTimeGiven Win line q time = IsWasteOfTime line q time
IsTimeGiven Draw line q time = time ≡ None
IsTimeGiven (MateIn k) line q time = time ≡ None

-- the same moves of p with the same values, and the time that each loses
abbrev pub AreTimed : Goal → List Position → Position → List EvaluatedMove → List Alternative → Type 0
AreTimed g line p [] [] = Unit {0}
AreTimed g line p [] (y ∷ ys) = ⊥
AreTimed g line p (x ∷ xs) [] = ⊥
AreTimed g line p (x ∷ xs) (y ∷ ys) =
    (y.played ≡ x.played) × (y.value ≡ x.value) × IsTimeGiven g line (after p x.played) y.time × AreTimed g line p xs ys

-- from p at depth d, the last of a line: the legal moves other than m after which the position holds, with the time that each loses
abbrev pub AreTimedAlternatives : Aim → ℕ → List Position → Position → Move → List Alternative → Type 0
AreTimedAlternatives a d line p m list = (plain : List EvaluatedMove) × AreAlternatives a d p m plain × AreTimed a.goal line p plain list

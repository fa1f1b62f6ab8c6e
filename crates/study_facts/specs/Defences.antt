-- Moves of the opponent that the tree does not answer, each with the number of its answers.
use Rattle.std.specs.Prelude.{◌≡◌, ℕ, ◌+◌, List, [], ◌∷◌, length, Option, Some, None}
use Rattle.study_board.specs.Position.{Position}
use Rattle.study_moves.specs.declared.moves.Move.{Move}
use Rattle.study_moves.specs.Rules.{after}
use Rattle.study_marks.specs.declared.mark_rules.Aim.{Aim}
use Rattle.study_facts.specs.declared.continuation.EvaluatedMove.{EvaluatedMove}
use Rattle.study_facts.specs.declared.missing_defences.Defence.{Defence}
use Rattle.study_facts.specs.Continuations.{AreHoldingMoves, AreMissing}

-- the move, if there is exactly one
abbrev pub only_move : List EvaluatedMove → Option Move
only_move [] = None
only_move (x ∷ []) = Some x.played
only_move (x ∷ y ∷ l) = None

-- in q at depth d, the number of the hero's moves that hold, and the move if it is the only one
abbrev pub IsAnswered : Aim → ℕ → Position → Defence → Type 0
IsAnswered a d q y = (list : List EvaluatedMove) × AreHoldingMoves a d q list × (y.answers ≡ length list) × (y.only ≡ only_move list)

-- the same moves of p at depth d with the same values, and their answers
abbrev pub AreAnswered : Aim → ℕ → Position → List EvaluatedMove → List Defence → Type 0
AreAnswered a d p [] [] = Unit {0}
AreAnswered a d p [] (y ∷ ys) = ⊥
AreAnswered a d p (x ∷ xs) [] = ⊥
AreAnswered a d p (x ∷ xs) (y ∷ ys) =
    (y.played ≡ x.played) × (y.value ≡ x.value) × IsAnswered a (d + 1) (after p x.played) y × AreAnswered a d p xs ys

-- from p at depth d: the legal moves that are not in the list, with their answers
abbrev pub AreDefences : Aim → ℕ → Position → List Move → List Defence → Type 0
AreDefences a d p there list = (plain : List EvaluatedMove) × AreMissing p there plain × AreAnswered a d p plain list

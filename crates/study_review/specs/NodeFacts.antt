-- Not part of any public contract: the lines of moves whose values were read.
use Rattle.std.specs.Prelude.{◌≡◌, ℕ, ◌+◌, true, not, ◌&&◌, List, [], ◌∷◌, ◌++◌, length}
use Rattle.std.specs.List.{flat_map, filter}
use Rattle.study_board.specs.Position.{Position}
use Rattle.study_moves.specs.declared.moves.Move.{Move}
use Rattle.study_values.specs.declared.value.Value.{Value}
use Rattle.study_marks.specs.declared.mark.Mark.{Mark}
use Rattle.study_marks.specs.declared.mark_rules.Aim.{Aim}
use Rattle.study_marks.specs.Annotated.{AreValuesAfter}
use Rattle.study_marks.specs.Goals.{holds}
use Rattle.study_marks.specs.Study.{Study}
use Rattle.study_facts.specs.declared.continuation.EvaluatedMove.{EvaluatedMove}
use Rattle.study_facts.specs.declared.time_loss.Alternative.{Alternative}
use Rattle.study_facts.specs.declared.missing_defences.Defence.{Defence}
use Rattle.study_review.specs.declared.defence_lines.Answers.{Answers}
use Rattle.study_facts.specs.Nodes.{RefutedLines, MissingLines, EndLines}
use Rattle.study_facts.specs.Zugzwang.{ZugzwangLines}
use Rattle.study_facts.specs.Continuations.{wanted_moves, contains_move, is_draw, AreChosen}
use Rattle.study_facts.specs.Time.{AreTimed}
use Rattle.study_facts.specs.Defences.{only_move, AreAnswered}
use Rattle.study_facts.specs.Words.{also_line, missing_line, times_lost}

-- these moves were added, with the values after them
abbrev pub AreReported : Position → List Move → List EvaluatedMove → List EvaluatedMove → Type 0
AreReported p ms old new = (all : List Value) × AreValuesAfter p ms all × (new ≡ old ++ wanted_moves (λ v. true) ms all)

-- the evaluated moves at depth d after which the position does not hold
abbrev pub failing_moves : Aim → ℕ → List EvaluatedMove → List EvaluatedMove
failing_moves a d list = filter (λ x. not (holds a (d + 1) x.value)) list

-- the evaluated moves after which the position is drawn
abbrev pub drawing_moves : List EvaluatedMove → List EvaluatedMove
drawing_moves list = filter (λ x. is_draw x.value) list

-- the evaluated moves that are not in the tree
abbrev pub moves_outside : List Move → List EvaluatedMove → List EvaluatedMove
moves_outside there list = filter (λ x. not (contains_move x.played there)) list

-- the evaluated moves that are not in the tree, and after which the position holds
abbrev pub besides : Aim → ℕ → List Move → List EvaluatedMove → List EvaluatedMove
besides a d there list = filter (λ x. not (contains_move x.played there) && holds a (d + 1) x.value) list

-- a line for each of these alternatives of a move from p, the last of a line; n of them lose time
abbrev pub AreAlsoLines : List ℕ → Aim → ℕ → List Position → Position → Move → List EvaluatedMove → ℕ → List ℕ → Type 0
AreAlsoLines path a d line p m list n text =
    (timed : List Alternative) × AreTimed a.goal line p (besides a d (m ∷ []) list) timed
    × (n ≡ times_lost timed) × (text ≡ flat_map (also_line path p) timed)

-- a line for each of these missing defences, with its answers
abbrev pub AreMissingLines : List ℕ → Aim → ℕ → Position → List Move → List EvaluatedMove → List ℕ → Type 0
AreMissingLines path a d p there list text =
    (answered : List Defence) × AreAnswered a d p (moves_outside there list) answered × (text ≡ flat_map (missing_line path p) answered)

-- the number of these moves of q at depth d that hold, and the move if it is the only one
abbrev pub AreAnswers : Aim → ℕ → Position → List Move → Answers → Type 0
AreAnswers a d q ms y =
    (list : List EvaluatedMove) × AreChosen (holds a (d + 1)) q ms list × (y.count ≡ length list) × (y.only ≡ only_move list)

-- the lines of a node from the values after its legal moves
abbrev pub OwnLines : Study Mark → List ℕ → List ℕ → Type 0
OwnLines s path text =
    (refuted missing end : List ℕ) × RefutedLines s path refuted × MissingLines s path missing × EndLines s path end
    × (text ≡ refuted ++ (missing ++ end))

-- the lines of a node except those of the move to it
abbrev pub HereLines : Study Mark → List ℕ → List ℕ → Type 0
HereLines s path text = (own zugzwang : List ℕ) × OwnLines s path own × ZugzwangLines s path zugzwang × (text ≡ own ++ zugzwang)

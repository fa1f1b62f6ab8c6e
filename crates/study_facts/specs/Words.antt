-- The words of a review's lines.
use Rattle.std.specs.Prelude.{ℕ, ◌==◌, List, [], ◌∷◌, ◌++◌, length, Option, Some, None, is_some, codes, decimal, if◌then◌else◌}
use Rattle.std.specs.List.{flat_map, count_by}
use Rattle.study_board.specs.Position.{Position}
use Rattle.study_moves.specs.declared.moves.Move.{Move}
use Rattle.study_moves.specs.Rules.{after}
use Rattle.study_moves.specs.LegalList.{legal_list}
use Rattle.study_notation.specs.SanSpelling.{move_text}
use Rattle.study_values.specs.declared.value.Value.{Value}
use Rattle.study_text.specs.Paths.{path_text}
use Rattle.study_marks.specs.Marks.{value_words}
use Rattle.study_facts.specs.declared.continuation.EvaluatedMove.{EvaluatedMove}
use Rattle.study_facts.specs.declared.time_loss.Alternative.{Alternative}
use Rattle.study_facts.specs.declared.missing_defences.Defence.{Defence}

-- a kind of line and a path, with a space after each
unfoldable pub front_words : List ℕ → List ℕ → List ℕ
front_words kind path = kind ++ (path_text path ++ codes " ")

-- a move from p, and the value after it
unfoldable pub move_and_value : Position → Move → Value → List ℕ
move_and_value p m v = move_text p m ++ (codes " " ++ value_words v)

-- the time that is lost, if any
abbrev pub time_words : Option ℕ → List ℕ
time_words None = []
time_words (Some m) = codes " time " ++ decimal m

-- `also 0.0.0 Qg1 loss 4 time 0`
unfoldable pub also_line : List ℕ → Position → Alternative → List ℕ
also_line path p x = front_words (codes "also ") path ++ (move_and_value p x.played x.value ++ (time_words x.time ++ codes "\n"))

-- `refuted 0.0.1 Kd8 win 3`
unfoldable pub refuted_line : List ℕ → Position → EvaluatedMove → List ℕ
refuted_line path p x = front_words (codes "refuted ") path ++ (move_and_value p x.played x.value ++ codes "\n")

unfoldable pub stalemate_line : List ℕ → List ℕ
stalemate_line path = front_words (codes "refuted ") path ++ codes "stalemate\n"

-- the number of answers in q; the answer, if it is the only one; or the word for stalemate if q has no move
abbrev pub only_words : Position → Option Move → List ℕ
only_words q None = []
only_words q (Some m) = codes " " ++ move_text q m

abbrev pub none_words : ℕ → List ℕ
none_words n = if n == 0 then codes " stalemate" else []

unfoldable pub answers_words : Position → ℕ → Option Move → List ℕ
answers_words q n only = codes " " ++ (decimal n ++ (only_words q only ++ none_words n))

-- `missing 0 Kc6 draw 1 Ke6`
unfoldable pub missing_line : List ℕ → Position → Defence → List ℕ
missing_line path p y =
    front_words (codes "missing ") path ++ (move_and_value p y.played y.value ++ (answers_words (after p y.played) y.answers y.only ++ codes "\n"))

-- moves played one after the other, each after a space
abbrev pub play_words : Position → List EvaluatedMove → List ℕ
play_words p [] = []
play_words p (x ∷ xs) = codes " " ++ (move_text p x.played ++ play_words (after p x.played) xs)

-- `play 6 loss 4 Kb8 Qa1 Kc8 Qa8#`
unfoldable pub play_line : List ℕ → Position → Value → List EvaluatedMove → List ℕ
play_line path p v list = front_words (codes "play ") path ++ (value_words v ++ (play_words p list ++ codes "\n"))

-- moves of one position, each after a space
unfoldable pub move_words : Position → EvaluatedMove → List ℕ
move_words p x = codes " " ++ move_text p x.played

-- `keep 1.0.0 2 2 Ka5 Ka7`
unfoldable pub keep_line : List ℕ → Position → List EvaluatedMove → List ℕ
keep_line path p list =
    front_words (codes "keep ") path
    ++ (decimal (length list) ++ (codes " " ++ (decimal (length (legal_list p)) ++ (flat_map (move_words p) list ++ codes "\n"))))

-- the number of alternatives that lose time
abbrev pub times_lost : List Alternative → ℕ
times_lost list = count_by (λ x. is_some x.time) list

-- `fault 0 Qg7 loss 2 dual 21 time 0`, `fault 0 Kb6 draw mistake`
unfoldable pub dual_line : List ℕ → Position → Move → Value → ℕ → ℕ → List ℕ
dual_line path p m v k t =
    front_words (codes "fault ") path
    ++ (move_and_value p m v ++ (codes " dual " ++ (decimal k ++ (codes " time " ++ (decimal t ++ codes "\n")))))

-- `sound but for loss of time` if all faults lose time alone, otherwise the number that do: `unsound 5, 4 lose time alone`
abbrev pub alone_words : ℕ → List ℕ
alone_words n = if n == 1 then codes " loses time alone" else codes " lose time alone"

unfoldable pub time_verdict : ℕ → ℕ → List ℕ
time_verdict faults n =
    if n == faults then codes "sound but for loss of time"
    else codes "unsound " ++ (decimal faults ++ (codes ", " ++ (decimal n ++ alone_words n)))

unfoldable pub mistake_line : List ℕ → Position → Move → Value → List ℕ
mistake_line path p m v = front_words (codes "fault ") path ++ (move_and_value p m v ++ codes " mistake\n")

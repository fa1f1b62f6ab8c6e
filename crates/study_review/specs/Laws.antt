-- Laws over the definitions.
use Rattle.std.specs.Prelude.{◌≡◌, ◌↔◌, ◌≤◌, ◌+◌, ◌*◌, ℕ, Bool, true, false, ◌&&◌, List, [], ◌∷◌, length, Option, Some, None}
use Rattle.study_board.specs.Position.{Position, IsValid}
use Rattle.study_moves.specs.declared.moves.Move.{Move}
use Rattle.study_moves.specs.Rules.{after}
use Rattle.study_moves.specs.Game.{IsLegal}
use Rattle.study_values.specs.declared.value.Value.{Value}
use Rattle.study_values.specs.Game.{IsValueOf}
use Rattle.study_marks.specs.declared.mark_rules.Aim.{Aim}
use Rattle.study_marks.specs.declared.mark.MoveMark.{MoveMark}
use Rattle.study_marks.specs.declared.mark.MoveMark.TheVariants.{Only, Dual}
use Rattle.study_marks.specs.declared.stipulation.Goal.TheVariants.{Win}
use Rattle.study_marks.specs.declared.mark.Mark.{Mark}
use Rattle.study_marks.specs.Bench.{played_by}
use Rattle.study_marks.specs.Marks.{is_fault}
use Rattle.study_marks.specs.Study.{Study, position_after, position_at}
use Rattle.study_tree.specs.Tree.{spot_at}
use Rattle.study_marks.specs.Goals.{aim_of, hero_moves, holds}
use Rattle.study_marks.specs.Annotated.{IsMoveMark, IsAnnotated}
use Rattle.study_facts.specs.declared.continuation.EvaluatedMove.{EvaluatedMove}
use Rattle.study_facts.specs.Continuations.{AreAlternatives, AreRefutations}
use Rattle.study_facts.specs.Repetition.{HasLost, Wins, IsRepeatableWithin, is_in_history}
use Rattle.study_facts.specs.declared.time_loss.Alternative.{Alternative}
use Rattle.study_facts.specs.Time.{AreTimedAlternatives}
use Rattle.study_facts.specs.Line.{line_to}
use Rattle.study_facts.specs.Nodes.{parent_path, is_dual, mark_at, is_solution_move}
use Rattle.study_facts.specs.TimeFaults.{all_lose_time}
use Rattle.study_facts.specs.Order.{AreTimeFaults, written_order}

-- if the hero is to win and the opponent moves, a position with this value holds exactly if the side to move is mated
abbrev pub WonPositionsHold : Type 0
WonPositionsHold = (a : Aim) (d : ℕ) (p : Position) (v : Value) → a.goal ≡ Win → hero_moves a d ≡ false → IsValueOf p v
    → (holds a d v ≡ true) ↔ HasLost p

-- a move that is marked as a dual with k others has k alternatives, and an only move has none
abbrev pub AlternativesAreCounted : Type 0
AlternativesAreCounted =
    (a : Aim) (d : ℕ) (p : Position) (m : Move) (v w : Value) (mark : MoveMark) (list : List EvaluatedMove) → IsValid p
    → IsLegal p m → IsValueOf (after p m) w → IsMoveMark a d p v w mark → AreAlternatives a d p m list
    → ((k : ℕ) → mark ≡ Dual k → length list ≡ k) × (mark ≡ Only → length list ≡ 0)

-- if the opponent is to move in a position that does not hold, and has a legal move, some move refutes
abbrev pub FailuresAreRefuted : Type 0
FailuresAreRefuted =
    (a : Aim) (d : ℕ) (q : Position) (v : Value) (list : List EvaluatedMove) → IsValid q → hero_moves a d ≡ false
    → IsValueOf q v → holds a d v ≡ false → ((m : Move) × IsLegal q m) → AreRefutations a d q list → ¬ (list ≡ [])

-- A hero who answers by this rule whenever some move wins, and then by a winning move.
abbrev pub AnswersByWins : (Position → Move) → Type 0
AnswersByWins answer = (r : Position) → ((h : Move) × Wins r h) → Wins r (answer r)

-- a play from q, in which the opponent moves first, by legal moves, and the hero answers by his rule, in positions in which it wins
abbrev pub IsPlayAgainst : (Position → Move) → Position → List Move → Type 0
IsPlayAgainst answer q [] = Unit {0}
IsPlayAgainst answer q (n ∷ []) = IsLegal q n
IsPlayAgainst answer q (n ∷ h ∷ rest) =
    IsLegal q n × (h ≡ answer (after q n)) × Wins (after q n) h × IsPlayAgainst answer (after (after q n) h) rest

-- if a position is back within m, the opponent has a play of at most m moves and one more to a position of the line, by whatever
-- rule the hero answers with winning moves
abbrev pub TimeLossIsForced : Type 0
TimeLossIsForced =
    (line : List Position) (m : ℕ) (q : Position) (answer : Position → Move) → IsRepeatableWithin line m q → AnswersByWins answer
    → (play : List Move) × IsPlayAgainst answer q play × (length play ≤ 2 * m + 1) × (is_in_history line (position_after q play) ≡ true)

-- a dual, or a mistake
abbrev pub has_fault : Option MoveMark → Bool
has_fault None = false
has_fault (Some mark) = is_fault mark

abbrev pub is_solution_fault : Study Mark → List ℕ → Bool
is_solution_fault s path = is_solution_move s path && has_fault (mark_at s path)

-- a move to the node at the path is a dual, and each other move that holds loses time: without them it would be an only move
abbrev pub LosesTimeAlone : Study Mark → List ℕ → Move → Type 0
LosesTimeAlone s path m =
    (is_dual (mark_at s path) ≡ true)
    × ((list : List Alternative)
    → AreTimedAlternatives (aim_of s) (length (parent_path path)) (line_to s (parent_path path)) (position_at s (parent_path path)) m list
    → all_lose_time list ≡ true)

-- if the move to the node is a fault of the solution, it loses time alone
abbrev pub LosesTimeAt : Study Mark → List ℕ → Type 0
LosesTimeAt s path = (m : Move) → played_by (spot_at s.tree path) ≡ Some m → is_solution_fault s path ≡ true → LosesTimeAlone s path m

abbrev pub EachLosesTime : Study Mark → List (List ℕ) → Type 0
EachLosesTime s [] = Unit {0}
EachLosesTime s (path ∷ paths) = LosesTimeAt s path × EachLosesTime s paths

-- all faults of an annotated study lose time alone exactly if there is no mistake, and each dual of the solution would be
-- an only move but for moves that lose time
abbrev pub TimeFaultsAreAll : Type 0
TimeFaultsAreAll =
    (s : Study Mark) (n : ℕ) → IsAnnotated s → AreTimeFaults s n → (n ≡ s.tree.label.faults) ↔ EachLosesTime s (written_order s)

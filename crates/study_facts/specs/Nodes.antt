-- The facts of one node in a review.
use Rattle.std.specs.Prelude.{◌≡◌, ◌==◌, ℕ, zero, suc, Bool, true, false, not, ◌&&◌}
use Rattle.std.specs.Prelude.{◌||◌, List, [], ◌∷◌, ◌++◌, length, Option, Some, None, MatchOption, if◌then◌else◌}
use Rattle.std.specs.List.{flat_map}
use Rattle.study_board.specs.Position.{Position, in_check}
use Rattle.study_moves.specs.declared.moves.Move.{Move}
use Rattle.study_moves.specs.LegalList.{legal_list}
use Rattle.study_values.specs.declared.value.Value.{Value}
use Rattle.study_values.specs.declared.value.Value.TheVariants.{Win, Loss, Draw}
use Rattle.study_tree.specs.Forest.{Forest, none, more}
use Rattle.study_tree.specs.Tree.{Spot, spot_at}
use Rattle.study_marks.specs.declared.mark.Mark.{Mark}
use Rattle.study_marks.specs.declared.mark.MoveMark.{MoveMark}
use Rattle.study_marks.specs.declared.mark.MoveMark.TheVariants.{Only, Dual, Mistake, Idle, Reply}
use Rattle.study_marks.specs.declared.mark_rules.Aim.{Aim}
use Rattle.study_marks.specs.Bench.{played_by, on_move_of}
use Rattle.study_marks.specs.FaultSums.{below_at}
use Rattle.study_marks.specs.Study.{Study, position_at}
use Rattle.study_marks.specs.Goals.{aim_of, hero_moves, holds}
use Rattle.study_facts.specs.declared.continuation.EvaluatedMove.{EvaluatedMove}
use Rattle.study_facts.specs.declared.time_loss.Alternative.{Alternative}
use Rattle.study_facts.specs.declared.missing_defences.Defence.{Defence}
use Rattle.study_facts.specs.Continuations.{AreRefutations, AreDrawingMoves}
use Rattle.study_facts.specs.Time.{AreTimedAlternatives}
use Rattle.study_facts.specs.Defences.{AreDefences}
use Rattle.study_facts.specs.Best.{IsBestPlay}
use Rattle.study_facts.specs.Line.{line_to, moves_of}
use Rattle.study_facts.specs.Faults.{in_solution}
use Rattle.study_facts.specs.Zugzwang.{ZugzwangLines}
use Rattle.study_facts.specs.Words.{also_line, refuted_line, stalemate_line, missing_line, play_line, keep_line, dual_line, mistake_line, times_lost}

-- the path of the node before the one at this path
abbrev pub parent_path : List ℕ → List ℕ
parent_path [] = []
parent_path (k ∷ []) = []
parent_path (k ∷ j ∷ js) = k ∷ parent_path (j ∷ js)

-- these lines if the test is true, otherwise no lines
abbrev pub EmptyUnless : Bool → (List ℕ → Type 0) → List ℕ → Type 0
EmptyUnless true Lines text = Lines text
EmptyUnless false Lines text = text ≡ []

-- the hero made the last move of the path
abbrev pub is_hero_move : Aim → List ℕ → Bool
is_hero_move a [] = false
is_hero_move a (k ∷ ks) = hero_moves a (length ks)

abbrev pub is_dual : Option MoveMark → Bool
is_dual (Some (Dual k)) = true
is_dual _ = false

abbrev pub is_mistake : Option MoveMark → Bool
is_mistake (Some Mistake) = true
is_mistake _ = false

abbrev pub is_idle : Option MoveMark → Bool
is_idle (Some Idle) = true
is_idle _ = false

-- no move of the path is idle
abbrev pub has_no_idle_move : Forest Mark → List ℕ → Bool
has_no_idle_move f [] = true
has_no_idle_move none (k ∷ ks) = true
has_no_idle_move (more m x b r) (zero ∷ ks) = not (is_idle x.on_move) && has_no_idle_move b ks
has_no_idle_move (more m x b r) (suc k ∷ ks) = has_no_idle_move r (k ∷ ks)

-- the side to move is stalemated
unfoldable pub is_stalemate : Position → Bool
is_stalemate p = length (legal_list p) == 0 && not (in_check p.men p.to_move)

abbrev pub mark_at : Study Mark → List ℕ → Option MoveMark
mark_at s path = on_move_of (spot_at s.tree path)

-- the value of a node; a draw if there is no such node
abbrev pub value_of_spot : Option (Spot Mark) → Value
value_of_spot None = Draw
value_of_spot (Some x) = x.label.value

abbrev pub value_at : Study Mark → List ℕ → Value
value_at s path = value_of_spot (spot_at s.tree path)

-- ---- also

-- the alternatives of a move to the node at the path
abbrev pub AreAlso : Study Mark → List ℕ → Move → List ℕ → Type 0
AreAlso s path m text =
    (list : List Alternative)
    × AreTimedAlternatives (aim_of s) (length (parent_path path)) (line_to s (parent_path path)) (position_at s (parent_path path)) m list
    × (text ≡ flat_map (also_line path (position_at s (parent_path path))) list)

-- a line for each alternative of a dual
abbrev pub AlsoLines : Study Mark → List ℕ → List ℕ → Type 0
AlsoLines s path text =
    EmptyUnless (is_dual (mark_at s path)) (λ t. MatchOption (played_by (spot_at s.tree path)) (t ≡ []) (λ m. AreAlso s path m t)) text

-- ---- refuted

-- an idle move that the solution leads to, the first on its path
abbrev pub is_first_idle : Study Mark → Aim → List ℕ → Bool
is_first_idle s a path = is_idle (mark_at s path) && (in_solution a 0 (parent_path path) && has_no_idle_move s.tree.below (parent_path path))

-- a mistake of the hero, or such an idle move
abbrev pub is_try : Study Mark → List ℕ → Bool
is_try s path = is_hero_move (aim_of s) path && (is_mistake (mark_at s path) || is_first_idle s (aim_of s) path)

abbrev pub refuted_text : List ℕ → Position → List EvaluatedMove → List ℕ
refuted_text path q list = if is_stalemate q then stalemate_line path else flat_map (refuted_line path q) list

-- a line for each refutation of a try, or the line that it stalemates
abbrev pub RefutedLines : Study Mark → List ℕ → List ℕ → Type 0
RefutedLines s path text =
    EmptyUnless (is_try s path) (λ t. (list : List EvaluatedMove)
    × AreRefutations (aim_of s) (length path) (position_at s path) list
    × (t ≡ refuted_text path (position_at s path) list)) text

-- ---- missing

-- the opponent is to move in a position of the solution that holds
abbrev pub is_defended : Study Mark → List ℕ → Bool
is_defended s path =
    not (hero_moves (aim_of s) (length path)) && (holds (aim_of s) (length path) (value_at s path) && in_solution (aim_of s) 0 path)

-- a line for each defence that is missing
abbrev pub MissingLines : Study Mark → List ℕ → List ℕ → Type 0
MissingLines s path text =
    EmptyUnless (is_defended s path) (λ t. (list : List Defence)
    × AreDefences (aim_of s) (length path) (position_at s path) (moves_of (below_at s.tree.below path)) list
    × (t ≡ flat_map (missing_line path (position_at s path)) list)) text

-- ---- play and keep

abbrev pub is_leaf : {L : Type 0} → Forest L → Bool
is_leaf none = true
is_leaf (more m l b r) = false

-- the tree ends here, but not the game
abbrev pub is_open_end : Study Mark → List ℕ → Bool
is_open_end s path = is_leaf (below_at s.tree.below path) && not (length (legal_list (position_at s path)) == 0)

-- best play if a side wins, otherwise the moves that keep a draw
abbrev pub IsPlay : List ℕ → Position → Value → List ℕ → Type 0
IsPlay path p v text = (list : List EvaluatedMove) × IsBestPlay 20 p list × (text ≡ play_line path p v list)

abbrev pub IsEnd : List ℕ → Position → Value → List ℕ → Type 0
IsEnd path p (Win n) text = IsPlay path p (Win n) text
IsEnd path p (Loss n) text = IsPlay path p (Loss n) text
IsEnd path p Draw text = (list : List EvaluatedMove) × AreDrawingMoves p list × (text ≡ keep_line path p list)

abbrev pub EndLines : Study Mark → List ℕ → List ℕ → Type 0
EndLines s path text = EmptyUnless (is_open_end s path) (IsEnd path (position_at s path) (value_at s path)) text

-- ---- together

-- the lines of the node at the path
abbrev pub NodeLines : Study Mark → List ℕ → List ℕ → Type 0
NodeLines s path text =
    (also refuted missing end zugzwang : List ℕ)
    × AlsoLines s path also × RefutedLines s path refuted × MissingLines s path missing × EndLines s path end
    × ZugzwangLines s path zugzwang × (text ≡ also ++ (refuted ++ (missing ++ (end ++ zugzwang))))

-- ---- fault

-- the last move of the path is the hero's, and part of the solution
abbrev pub is_solution_move : Study Mark → List ℕ → Bool
is_solution_move s path = is_hero_move (aim_of s) path && in_solution (aim_of s) 0 path

-- a dual with k others, and the number of those that lose time: a move from p, the last of a line, to a position with the value v
abbrev pub IsDual : List ℕ → Aim → ℕ → List Position → Position → Move → Value → ℕ → List ℕ → Type 0
IsDual path a d line p m v k text = (list : List Alternative) × AreTimedAlternatives a d line p m list × (text ≡ dual_line path p m v k (times_lost list))

-- a dual, or a mistake
abbrev pub IsFaultOf : Study Mark → List ℕ → Move → Option MoveMark → List ℕ → Type 0
IsFaultOf s path m None text = text ≡ []
IsFaultOf s path m (Some (Dual k)) text =
    IsDual path (aim_of s) (length (parent_path path)) (line_to s (parent_path path)) (position_at s (parent_path path)) m (value_at s path) k text
IsFaultOf s path m (Some Mistake) text = text ≡ mistake_line path (position_at s (parent_path path)) m (value_at s path)
IsFaultOf s path m (Some Only) text = text ≡ []
IsFaultOf s path m (Some Idle) text = text ≡ []
IsFaultOf s path m (Some Reply) text = text ≡ []

abbrev pub FaultLines : Study Mark → List ℕ → List ℕ → Type 0
FaultLines s path text =
    EmptyUnless (is_solution_move s path)
    (λ t. MatchOption (played_by (spot_at s.tree path)) (t ≡ []) (λ m. IsFaultOf s path m (mark_at s path) t)) text

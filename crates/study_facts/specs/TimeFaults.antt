-- Faults of the solution that lose time alone: each other move that holds loses time.
use Rattle.std.specs.Prelude.{◌≡◌, ℕ, Bool, true, false, List, length, Option, Some, None, is_some, MatchOption, if◌then◌else◌}
use Rattle.std.specs.List.{list_all}
use Rattle.study_board.specs.Position.{Position}
use Rattle.study_moves.specs.declared.moves.Move.{Move}
use Rattle.study_tree.specs.Tree.{spot_at}
use Rattle.study_marks.specs.declared.mark.Mark.{Mark}
use Rattle.study_marks.specs.declared.mark.MoveMark.{MoveMark}
use Rattle.study_marks.specs.declared.mark.MoveMark.TheVariants.{Only, Dual, Mistake, Idle, Reply}
use Rattle.study_marks.specs.declared.mark_rules.Aim.{Aim}
use Rattle.study_marks.specs.Bench.{played_by}
use Rattle.study_marks.specs.Study.{Study, position_at}
use Rattle.study_marks.specs.Goals.{aim_of}
use Rattle.study_facts.specs.declared.time_loss.Alternative.{Alternative}
use Rattle.study_facts.specs.Time.{AreTimedAlternatives}
use Rattle.study_facts.specs.Line.{line_to}
use Rattle.study_facts.specs.Nodes.{parent_path, mark_at, is_solution_move}

-- each of these other moves loses time
abbrev pub all_lose_time : List Alternative → Bool
all_lose_time list = list_all (λ x. is_some x.time) list

-- a number with the property if the test is true, otherwise 0
abbrev pub CountWhere : Bool → (ℕ → Type 0) → ℕ → Type 0
CountWhere true Count n = Count n
CountWhere false Count n = n ≡ 0

-- for a dual, a move from p, the last of a line: 1 if each other move that holds loses time, otherwise 0
abbrev pub IsTimeDual : Aim → ℕ → List Position → Position → Move → ℕ → Type 0
IsTimeDual a d line p m n =
    (list : List Alternative) × AreTimedAlternatives a d line p m list × (n ≡ (if all_lose_time list then 1 else 0))

-- only a dual can lose time alone
abbrev pub IsTimeFaultOf : Study Mark → List ℕ → Move → Option MoveMark → ℕ → Type 0
IsTimeFaultOf s path m None n = n ≡ 0
IsTimeFaultOf s path m (Some (Dual k)) n =
    IsTimeDual (aim_of s) (length (parent_path path)) (line_to s (parent_path path)) (position_at s (parent_path path)) m n
IsTimeFaultOf s path m (Some Mistake) n = n ≡ 0
IsTimeFaultOf s path m (Some Only) n = n ≡ 0
IsTimeFaultOf s path m (Some Idle) n = n ≡ 0
IsTimeFaultOf s path m (Some Reply) n = n ≡ 0

-- 1 if the move to the node at the path is a fault of the solution that loses time alone, otherwise 0
abbrev pub IsTimeFault : Study Mark → List ℕ → ℕ → Type 0
IsTimeFault s path n =
    CountWhere (is_solution_move s path)
    (λ j. MatchOption (played_by (spot_at s.tree path)) (j ≡ 0) (λ m. IsTimeFaultOf s path m (mark_at s path) j)) n

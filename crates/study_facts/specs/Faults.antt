-- The faults of the solution, in written order.
use Rattle.std.specs.Prelude.{◌≡◌, ◌==◌, ℕ, ◌+◌, Bool, true, not, ◌&&◌, ◌||◌, List, [], ◌∷◌, ◌++◌, length, Option, Some, None, if◌then◌else◌}
use Rattle.study_moves.specs.declared.moves.Move.{Move}
use Rattle.study_tree.specs.Forest.{Forest, none, more}
use Rattle.study_marks.specs.declared.mark.Mark.{Mark}
use Rattle.study_marks.specs.declared.mark.MoveMark.{MoveMark}
use Rattle.study_marks.specs.declared.mark_rules.Aim.{Aim}
use Rattle.study_marks.specs.Study.{Study}
use Rattle.study_marks.specs.Goals.{aim_of, hero_moves}
use Rattle.study_marks.specs.Marks.{is_fault}
use Rattle.study_marks.specs.Annotated.{IsAnnotated}

-- the path, from a node at depth d, has only solution steps: each of the hero's goes to the first child
abbrev pub in_solution : Aim → ℕ → List ℕ → Bool
in_solution a d [] = true
in_solution a d (k ∷ ks) = (not (hero_moves a d) || (k == 0)) && in_solution a (d + 1) ks

-- a fault: the path of the node that the move leads to, the move, and its mark
pub record Fault : Type 0 where
  pub path : List ℕ
  pub played : Move
  pub mark : MoveMark

abbrev pub fault_of : Bool → List ℕ → Move → Option MoveMark → List Fault
fault_of hero path m None = []
fault_of hero path m (Some x) = if hero && is_fault x then record { path = path; played = m; mark = x } ∷ [] else []

-- for sibling nodes from place k on, below the node at the path, whose moves are made at depth d: the faults that solution steps lead to
abbrev pub faults_from : Aim → ℕ → List ℕ → ℕ → Forest Mark → List Fault
faults_from a d path k none = []
faults_from a d path k (more m x b r) =
    fault_of (hero_moves a d) (path ++ k ∷ []) m x.on_move
    ++ (faults_from a (d + 1) (path ++ k ∷ []) 0 b ++ (if hero_moves a d then [] else faults_from a d path (k + 1) r))

abbrev pub solution_faults : Study Mark → List Fault
solution_faults s = faults_from (aim_of s) 0 [] 0 s.tree.below

-- in an annotated study there are as many faults as the root counts, and each is at a path of solution steps
abbrev pub AreAtSolution : Aim → List Fault → Type 0
AreAtSolution a [] = Unit {0}
AreAtSolution a (x ∷ xs) = (in_solution a 0 x.path ≡ true) × AreAtSolution a xs

abbrev pub FaultsAreOfTheSolution : Type 0
FaultsAreOfTheSolution =
    (s : Study Mark) → IsAnnotated s
    → (length (solution_faults s) ≡ s.tree.label.faults) × AreAtSolution (aim_of s) (solution_faults s)

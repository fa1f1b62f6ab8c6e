-- A study in written order, and whether it has a solution.
use Rattle.std.specs.Prelude.{◌≡◌, ℕ, ◌+◌, Bool, true, false, ◌&&◌, List, [], ◌∷◌, ◌++◌, Result, Ok, Err}
use Rattle.study_values.specs.Values.{ValueSource}
use Rattle.study_tree.specs.Forest.{Forest, none, more}
use Rattle.study_marks.specs.declared.mark.Mark.{Mark}
use Rattle.study_marks.specs.Study.{Study}
use Rattle.study_facts.specs.declared.fault.ReviewFault.{ReviewFault}
use Rattle.study_facts.specs.declared.fault.ReviewFault.TheVariants.{OutOfMemory, Device, Values}
use Rattle.study_facts.specs.Asked.{AllEvaluated, Stopped}
use Rattle.study_facts.specs.Nodes.{is_leaf}
use Rattle.study_facts.specs.TimeFaults.{IsTimeFault}

-- no node has children
abbrev pub has_no_grandchild : {L : Type 0} → Forest L → Bool
has_no_grandchild none = true
has_no_grandchild (more m l b r) = is_leaf b && has_no_grandchild r

-- the solution has no move of the hero: at the root, if he moves first, otherwise after the moves of the opponent
abbrev pub is_empty : Bool → {L : Type 0} → Forest L → Bool
is_empty true f = is_leaf f
is_empty false f = has_no_grandchild f

-- the paths of sibling nodes from place k on, below the node at the path, and of all nodes below them, in written order
abbrev pub paths_from : {L : Type 0} → List ℕ → ℕ → Forest L → List (List ℕ)
paths_from path k none = []
paths_from path k (more m l b r) = (path ++ k ∷ []) ∷ (paths_from (path ++ k ∷ []) 0 b ++ paths_from path (k + 1) r)

-- the lines of the nodes at these paths, one node after the other
abbrev pub LinesOfEach : (List ℕ → List ℕ → Type 0) → List (List ℕ) → List ℕ → Type 0
LinesOfEach Lines [] text = text ≡ []
LinesOfEach Lines (path ∷ paths) text = (own rest : List ℕ) × Lines path own × LinesOfEach Lines paths rest × (text ≡ own ++ rest)

-- the root and all nodes, in written order
abbrev pub written_order : {L : Type 0} → Study L → List (List ℕ)
written_order s = [] ∷ paths_from [] 0 s.tree.below

-- the total of the counts at these paths
abbrev pub SumOfEach : (List ℕ → ℕ → Type 0) → List (List ℕ) → ℕ → Type 0
SumOfEach Count [] n = n ≡ 0
SumOfEach Count (path ∷ paths) n = (own rest : ℕ) × Count path own × SumOfEach Count paths rest × (n ≡ own + rest)

-- the number of faults of the solution that lose time alone
abbrev pub AreTimeFaults : Study Mark → ℕ → Type 0
AreTimeFaults s n = SumOfEach (IsTimeFault s) (written_order s) n

module _ {V : Type 0} (source : ValueSource V) where
  -- each value was read, unless the call was refused for the first that could not be read
  abbrev pub HasReviewed : {T : Type 0} → V → Result T ReviewFault → V → Type 0
  HasReviewed old (Ok x) new = AllEvaluated source old new
  HasReviewed old (Err OutOfMemory) new = AllEvaluated source old new
  HasReviewed old (Err Device) new = AllEvaluated source old new
  HasReviewed old (Err (Values f)) new = Stopped source old f new

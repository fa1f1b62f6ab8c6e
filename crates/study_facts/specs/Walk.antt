-- A walk of a study, and what it adds at each node.
use Rattle.std.specs.Prelude.{◌≡◌, ℕ, ◌<◌, List, [], ◌∷◌, ◌++◌, length, Some}
use Rattle.study_board.specs.Position.{Position}
use Rattle.study_tree.specs.Edits.{width}
use Rattle.study_tree.specs.Tree.{spot_at}
use Rattle.study_marks.specs.declared.mark.Mark.{Mark}
use Rattle.study_marks.specs.declared.mark_rules.Aim.{Aim}
use Rattle.study_marks.specs.FaultSums.{below_at}
use Rattle.study_marks.specs.Study.{Study}
use Rattle.study_marks.specs.Goals.{aim_of}
use Rattle.study_facts.specs.declared.walk_state.WalkState.{WalkState}
use Rattle.study_facts.specs.declared.walk_state.MoveToNode.{MoveToNode}
use Rattle.study_facts.specs.Line.{line_to}
use Rattle.study_facts.specs.Nodes.{parent_path}
use Rattle.study_facts.specs.WalkState.{arrival_of, IsStateAt}

-- what the nodes at these paths add, one node after the other
abbrev pub AddsEach : {T : Type 0} → (List ℕ → T → T → Type 0) → List (List ℕ) → T → T → Type 0
AddsEach Adds [] old new = new ≡ old
AddsEach {T = T} Adds (path ∷ paths) old new = (mid : T) × Adds path old mid × AddsEach Adds paths mid new

-- the move to the node at the path, from the node before it with its line, and the walk states of both
pub record IsWalkStep (s : Study Mark) (path : List ℕ) (a : Aim) (ps : List Position) (x y : WalkState) (m : MoveToNode) : Type 0 where
  pub aim : a ≡ aim_of s
  pub some : 0 < length path
  pub line : ps ≡ line_to s (parent_path path)
  pub before : IsStateAt s (parent_path path) x
  pub here : IsStateAt s path y
  pub by : arrival_of (spot_at s.tree path) ≡ Some m

-- the walk went on to the node at the path: its walk state was added
abbrev pub WentTo : Study Mark → List ℕ → List WalkState → List WalkState → Type 0
WentTo s path old new = (x : WalkState) × IsStateAt s path x × (new ≡ old ++ x ∷ [])

-- the walk is at the node at the path: the last of these is its walk state
abbrev pub IsAt : Study Mark → List ℕ → List WalkState → Type 0
IsAt s path states = (front : List WalkState) × WentTo s path front states

-- the path leads one move on from the node where the walk is
pub record IsBefore (s : Study Mark) (path : List ℕ) (states : List WalkState) : Type 0 where
  pub front : List ℕ
  pub place : ℕ
  pub path_is : path ≡ front ++ place ∷ []
  pub there : place < width (below_at s.tree.below front)
  pub at : IsAt s front states

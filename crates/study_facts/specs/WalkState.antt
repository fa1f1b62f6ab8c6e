-- Not part of any public contract: the state of a walk of a study.
use Rattle.std.specs.Prelude.{◌≡◌, ℕ, List, length, Option, Some, None}
use Rattle.study_board.specs.Position.{Position}
use Rattle.study_moves.specs.declared.moves.Move.{Move}
use Rattle.study_tree.specs.Edits.{width}
use Rattle.study_tree.specs.Tree.{Spot, spot_at}
use Rattle.study_marks.specs.declared.mark.Mark.{Mark}
use Rattle.study_marks.specs.declared.mark_rules.Aim.{Aim}
use Rattle.study_marks.specs.Bench.{played_by}
use Rattle.study_marks.specs.FaultSums.{below_at}
use Rattle.study_marks.specs.Study.{Study, position_at}
use Rattle.study_marks.specs.Goals.{aim_of}
use Rattle.study_facts.specs.declared.walk_state.WalkState.{WalkState}
use Rattle.study_facts.specs.declared.walk_state.MoveToNode.{MoveToNode}
use Rattle.study_facts.specs.Faults.{in_solution}
use Rattle.study_facts.specs.Line.{line_to}
use Rattle.study_facts.specs.Nodes.{parent_path, has_no_idle_move}

-- the contents of a node, if it exists and is not the root
abbrev pub arrival_by : Option Move → Mark → ℕ → Option MoveToNode
arrival_by None x n = None
arrival_by (Some m) x n = Some (record { played = m; mark = x; children = n })

abbrev pub arrival_of : Option (Spot Mark) → Option MoveToNode
arrival_of None = None
arrival_of (Some s) = arrival_by s.played s.label s.children

-- the walk state at the node at the path
pub record IsStateAt (s : Study Mark) (path : List ℕ) (x : WalkState) : Type 0 where
  pub position : x.position ≡ position_at s path
  pub children : x.children ≡ width (below_at s.tree.below path)
  pub solution : x.solution ≡ in_solution (aim_of s) 0 path
  pub quiet : x.quiet ≡ has_no_idle_move s.tree.below path

-- a node at its depth, with the stipulation
pub record IsNodeAt (s : Study Mark) (path : List ℕ) (a : Aim) (d : ℕ) (p : Position) : Type 0 where
  pub aim : a ≡ aim_of s
  pub depth : d ≡ length path
  pub position : p ≡ position_at s path

-- the move to the node at the path, from the node before it with its line
pub record IsStep (s : Study Mark) (path : List ℕ) (a : Aim) (d : ℕ) (ps : List Position) (p : Position) (m : Move) : Type 0 where
  pub before : IsNodeAt s (parent_path path) a d p
  pub line : ps ≡ line_to s (parent_path path)
  pub played : played_by (spot_at s.tree path) ≡ Some m

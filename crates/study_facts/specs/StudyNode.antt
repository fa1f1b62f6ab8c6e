-- Not part of any public contract: a node and a move of a study, as a walk reaches them.
use Rattle.std.specs.Prelude.{◌≡◌, ◌+◌, ◌<◌, ◌≤◌, ◌^◌, length, true, IsTrue}
use Rattle.study_moves.specs.Rules.{is_legal}
use Rattle.study_tree.specs.Edits.{width}
use Rattle.study_tree.specs.Tree.{has_spot}
use Rattle.study_marks.specs.declared.mark.Mark.{Mark}
use Rattle.study_marks.specs.FaultSums.{below_at}
use Rattle.study_marks.specs.Study.{Study}
use Rattle.study_marks.specs.Goals.{aim_of}
use Rattle.study_facts.specs.declared.study_node.StudyNode.{StudyNode}
use Rattle.study_facts.specs.declared.study_node.StudyMove.{StudyMove}
use Rattle.study_facts.specs.Faults.{in_solution}
use Rattle.study_facts.specs.Nodes.{mark_at, value_at, is_try, is_solution_move}
use Rattle.study_facts.specs.WalkState.{IsNodeAt, IsStep}

-- the node at its path
pub record IsStudyNode (s : Study Mark) (x : StudyNode) : Type 0 where
  pub there : IsTrue (has_spot s.tree x.steps.now)
  pub node : IsNodeAt s x.steps.now x.node.aim.now x.node.depth x.node.position.now
  pub value : x.value ≡ value_at s x.steps.now
  pub children : x.children ≡ width (below_at s.tree.below x.steps.now)
  pub solution : x.solution ≡ in_solution (aim_of s) 0 x.steps.now
  pub tried : x.tried ≡ is_try s x.steps.now

-- the move to the node at its path
pub record IsStudyMove (s : Study Mark) (x : StudyMove) : Type 0 where
  pub step : IsStep s x.steps.now x.before.aim.now x.before.depth x.line.now x.before.position.now x.played
  pub legal : is_legal x.before.position.now x.played ≡ true
  pub depth : x.before.depth + 1 < 2 ^ 64
  pub shallow : length x.steps.now ≤ 256
  pub value : x.mark.value ≡ value_at s x.steps.now
  pub mark : x.mark.on_move ≡ mark_at s x.steps.now
  pub solution : x.solution ≡ is_solution_move s x.steps.now

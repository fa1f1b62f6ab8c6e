-- Not part of any public contract: a node of which a page has rows.
use Rattle.std.specs.Prelude.{◌≡◌, ℕ, List, Option, Some, None}
use Rattle.study_tree.specs.Tree.{spot_at}
use Rattle.study_marks.specs.declared.mark.Mark.{Mark}
use Rattle.study_marks.specs.Bench.{played_by}
use Rattle.study_marks.specs.Study.{Study}
use Rattle.study_facts.specs.declared.study_node.StudyMove.{StudyMove}
use Rattle.study_facts.specs.StudyNode.{IsStudyNode, IsStudyMove}
use Rattle.study_page.specs.declared.node_rows.PageNode.{PageNode}

-- the move to the node at the path, where one leads to it
abbrev pub IsMoveTo : Study Mark → List ℕ → Option StudyMove → Type 0
IsMoveTo s path None = played_by (spot_at s.tree path) ≡ None
IsMoveTo s path (Some x) = IsStudyMove s x × (x.steps.now ≡ path)

pub record IsPageNode (s : Study Mark) (x : PageNode) : Type 0 where
  pub here : IsStudyNode s x.here
  pub by : IsMoveTo s x.here.steps.now x.by

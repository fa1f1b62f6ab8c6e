-- The words for a node of a study.
use Rattle.std.specs.Prelude.{ℕ, List, Option, Some, None, length, codes}
use Rattle.study_moves.specs.declared.moves.Move.{Move}
use Rattle.study_tree.specs.Tree.{spot_at}
use Rattle.study_marks.specs.Bench.{played_by}
use Rattle.study_marks.specs.Study.{Study, position_at}
use Rattle.study_facts.specs.Nodes.{parent_path}
use Rattle.study_head.specs.Words.{label}

module _ {L : Type 0} where
  -- the move that was played to a node at the path
  abbrev pub label_to : Study L → List ℕ → Option Move → List ℕ
  label_to s path None = codes "the start"
  label_to s path (Some m) = label s.start (length (parent_path path)) (position_at s (parent_path path)) m

  -- the node at the path, by the move to it
  abbrev pub where_words : Study L → List ℕ → List ℕ
  where_words s path = label_to s path (played_by (spot_at s.tree path))

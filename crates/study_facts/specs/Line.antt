-- The line of a node: the positions on the path to it.
use Rattle.std.specs.Prelude.{ℕ, List, [], ◌∷◌}
use Rattle.study_board.specs.Position.{Position}
use Rattle.study_moves.specs.declared.moves.Move.{Move}
use Rattle.study_moves.specs.Rules.{after}
use Rattle.study_tree.specs.Forest.{Forest, none, more}
use Rattle.study_marks.specs.Study.{Study, moves_to}

-- the position, then the positions after moves that are played in order
abbrev pub positions_along : Position → List Move → List Position
positions_along p [] = p ∷ []
positions_along p (m ∷ ms) = p ∷ positions_along (after p m) ms

module _ {L : Type 0} where
  -- the positions on the path from the root to the node, both included
  abbrev pub line_to : Study L → List ℕ → List Position
  line_to s steps = positions_along s.start.position (moves_to s.tree.below steps)

  -- the moves of sibling nodes
  abbrev pub moves_of : Forest L → List Move
  moves_of none = []
  moves_of (more m l b r) = m ∷ moves_of r

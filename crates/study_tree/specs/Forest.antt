-- A tree of moves, as a mathematical object.
use Rattle.std.specs.Prelude.{ℕ, ◌+◌, List, [], ◌∷◌}
use Rattle.study_moves.specs.declared.moves.Move.{Move}

-- sibling nodes: for the first its move, its label and the forest below it; then the later ones
pub data Forest (L : Type 0) : Type 0 where
  none : Forest L
  more : Move → L → Forest L → Forest L → Forest L

-- a node: the move that led to it, its label and the forest below it
pub record Twig (L : Type 0) : Type 0 where
  pub played : Move
  pub label : L
  pub below : Forest L

module _ {L : Type 0} where
  -- the nodes, as siblings
  abbrev pub forest_of : List (Twig L) → Forest L
  forest_of [] = none
  forest_of (t ∷ ts) = more t.played t.label t.below (forest_of ts)

  -- the number of nodes
  abbrev pub nodes_in : Forest L → ℕ
  nodes_in none = 0
  nodes_in (more m l b r) = 1 + nodes_in b + nodes_in r

  -- the number of nodes, this one included
  abbrev pub nodes_from : Twig L → ℕ
  nodes_from t = 1 + nodes_in t.below

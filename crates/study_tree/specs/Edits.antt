-- The nodes that paths lead to, and the edits of a tree there. A path is the places of children from the root, counted from 0; a forest is the
-- part of the tree below the path's start.
use Rattle.std.specs.Prelude.{ℕ, ◌+◌, List, [], ◌∷◌, Bool, true, false, Option, Some, None, suc, zero}
use Rattle.study_moves.specs.declared.moves.Move.{Move}
use Rattle.study_tree.specs.Forest.{Forest, none, more, Twig}

-- the last place of a path of k and the rest
abbrev pub last_place : ℕ → List ℕ → ℕ
last_place k [] = k
last_place k (j ∷ js) = last_place j js

module _ {L : Type 0} where
  -- a node is at the path
  abbrev pub has_node : Forest L → List ℕ → Bool
  has_node f [] = true
  has_node none (k ∷ ks) = false
  has_node (more m l b r) (zero ∷ ks) = has_node b ks
  has_node (more m l b r) (suc k ∷ ks) = has_node r (k ∷ ks)

  -- the node at place k and then the rest of the path
  abbrev pub node_in : Forest L → ℕ → List ℕ → Option (Twig L)
  node_in none k ks = None
  node_in (more m l b r) zero [] = Some (record { played = m; label = l; below = b })
  node_in (more m l b r) zero (j ∷ js) = node_in b j js
  node_in (more m l b r) (suc k) ks = node_in r k ks

  -- the forest below the node at the path, edited
  abbrev pub below_edited : (Forest L → Forest L) → Forest L → List ℕ → Forest L
  below_edited g f [] = g f
  below_edited g none (k ∷ ks) = none
  below_edited g (more m l b r) (zero ∷ ks) = more m l (below_edited g b ks) r
  below_edited g (more m l b r) (suc k ∷ ks) = more m l b (below_edited g r (k ∷ ks))

  -- no node is more than n plies below
  abbrev pub IsWithin : ℕ → Forest L → Type 0
  IsWithin n none = Unit {0}
  IsWithin zero (more m l b r) = ⊥
  IsWithin (suc n) (more m l b r) = IsWithin n b × IsWithin (suc n) r

  -- one more node, after the others
  abbrev pub with_last : Move → L → Forest L → Forest L
  with_last m l none = more m l none none
  with_last m l (more n k b r) = more n k b (with_last m l r)

  -- the number of siblings
  abbrev pub width : Forest L → ℕ
  width none = 0
  width (more m l b r) = 1 + width r

  -- the node at the path gets a last child
  abbrev pub add_last : Forest L → List ℕ → Move → L → Forest L
  add_last f steps m l = below_edited (with_last m l) f steps

  -- the number of children of the node at the path
  abbrev pub children_at : Forest L → List ℕ → ℕ
  children_at f [] = width f
  children_at none (k ∷ ks) = 0
  children_at (more m l b r) (zero ∷ ks) = children_at b ks
  children_at (more m l b r) (suc k ∷ ks) = children_at r (k ∷ ks)

  -- the siblings of the path's node edited, at its place: k and then the rest of the path
  abbrev pub place_edited : (ℕ → Forest L → Forest L) → Forest L → ℕ → List ℕ → Forest L
  place_edited g f k [] = g k f
  place_edited g none k (j ∷ js) = none
  place_edited g (more m l b r) zero (j ∷ js) = more m l (place_edited g b j js) r
  place_edited g (more m l b r) (suc k) (j ∷ js) = more m l b (place_edited g r k (j ∷ js))

  -- another label at place k
  abbrev pub labelled_at : L → ℕ → Forest L → Forest L
  labelled_at x k none = none
  labelled_at x zero (more m l b r) = more m x b r
  labelled_at x (suc k) (more m l b r) = more m l b (labelled_at x k r)

  -- the forest without the node at place k
  abbrev pub dropped_at : ℕ → Forest L → Forest L
  dropped_at k none = none
  dropped_at zero (more m l b r) = r
  dropped_at (suc k) (more m l b r) = more m l b (dropped_at k r)

  -- a node inserted before the first of the others
  abbrev pub second : Move → L → Forest L → Forest L → Forest L
  second m l b none = more m l b none
  second m l b (more n k d r) = more n k d (more m l b r)

  -- the node at place k exchanged with the one before it
  abbrev pub raised_at : ℕ → Forest L → Forest L
  raised_at k none = none
  raised_at zero f = f
  raised_at (suc zero) (more m l b r) = second m l b r
  raised_at (suc (suc k)) (more m l b r) = more m l b (raised_at (suc k) r)

-- the tree without the numbers of spare places
abbrev pub without_spares : {L : Type 0} → Forest (L × ℕ) → Forest L
without_spares none = none
without_spares (more m p b r) = more m p.0 (without_spares b) (without_spares r)

-- the number of further children that fit below the node at the path without memory; s is the number for the path's start
abbrev pub spare_at : {L : Type 0} → ℕ → Forest (L × ℕ) → List ℕ → ℕ
spare_at s f [] = s
spare_at s none (k ∷ ks) = 0
spare_at s (more m p b r) (zero ∷ ks) = spare_at p.1 b ks
spare_at s (more m p b r) (suc k ∷ ks) = spare_at s r (k ∷ ks)

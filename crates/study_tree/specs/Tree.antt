-- A whole tree as contracts see it, and when an edit is refused.
use Rattle.std.specs.Prelude.{ℕ, ◌+◌, List, [], ◌∷◌, Bool, not, Option, Some, None, length, nat_le, nat_eq, if◌then◌else◌}
use Rattle.study_moves.specs.declared.moves.Move.{Move}
use Rattle.study_tree.specs.declared.fault.TreeFault.{TreeFault}
use Rattle.study_tree.specs.declared.fault.TreeFault.TheVariants.{NoSuchNode, Root, AlreadyFirst, TooDeep, TreeFull}
use Rattle.study_tree.specs.Forest.{Forest, Twig, nodes_in}
use Rattle.study_tree.specs.Edits.{has_node, node_in, width, add_last, place_edited, labelled_at, dropped_at, raised_at, last_place, without_spares, spare_at}

-- a tree: the root's label, and the forest below the root
pub record Plain (L : Type 0) : Type 0 where
  pub label : L
  pub below : Forest L

-- the contents of a node: the move that led to it, absent for the root, its label and its number of children
pub record Spot (L : Type 0) : Type 0 where
  pub played : Option Move
  pub label : L
  pub children : ℕ

-- a `Tree` as contracts see it: the tree, the number of further children that each node takes without memory, and the number of labels written
pub record Held (L : Type 0) : Type 0 where
  pub label : L
  pub spare : ℕ
  pub below : Forest (L × ℕ)
  pub relabelled : ℕ

module _ {L : Type 0} where
  abbrev pub plain_tree : Held L → Plain L
  plain_tree h = record { label = h.label; below = without_spares h.below }

  -- the number of further children that the node at the path takes without memory
  abbrev pub spare_of : Held L → List ℕ → ℕ
  spare_of h steps = spare_at h.spare h.below steps

  abbrev pub size_of : Plain L → ℕ
  size_of t = 1 + nodes_in t.below

  abbrev pub has_spot : Plain L → List ℕ → Bool
  has_spot t steps = has_node t.below steps

  abbrev pub twig_spot : Option (Twig L) → Option (Spot L)
  twig_spot None = None
  twig_spot (Some t) = Some (record { played = Some t.played; label = t.label; children = width t.below })

  -- the node at the path
  abbrev pub spot_at : Plain L → List ℕ → Option (Spot L)
  spot_at t [] = Some (record { played = None; label = t.label; children = width t.below })
  spot_at t (k ∷ ks) = twig_spot (node_in t.below k ks)

  abbrev pub with_child : Plain L → List ℕ → Move → L → Plain L
  with_child t steps m l = record t { below = add_last t.below steps m l }

  abbrev pub with_label : Plain L → List ℕ → L → Plain L
  with_label t [] l = record t { label = l }
  with_label t (k ∷ ks) l = record t { below = place_edited (labelled_at l) t.below k ks }

  abbrev pub without : Plain L → List ℕ → Plain L
  without t [] = t
  without t (k ∷ ks) = record t { below = place_edited dropped_at t.below k ks }

  abbrev pub moved_up : Plain L → List ℕ → Plain L
  moved_up t [] = t
  moved_up t (k ∷ ks) = record t { below = place_edited raised_at t.below k ks }

  -- the first reason to refuse one more child of the node at the path, apart from want of memory
  abbrev pub child_refusal : Plain L → List ℕ → Option TreeFault
  child_refusal t steps =
      if not (has_spot t steps) then Some NoSuchNode
      else (if nat_le 256 (length steps) then Some TooDeep else (if nat_le 4096 (size_of t) then Some TreeFull else None))

  -- the first reason to refuse removing the node
  abbrev pub removal_refusal : Plain L → List ℕ → Option TreeFault
  removal_refusal t [] = Some Root
  removal_refusal t (k ∷ ks) = if not (has_spot t (k ∷ ks)) then Some NoSuchNode else None

  -- the first reason to refuse exchanging the node with the one before it
  abbrev pub move_up_refusal : Plain L → List ℕ → Option TreeFault
  move_up_refusal t [] = Some Root
  move_up_refusal t (k ∷ ks) =
      if not (has_spot t (k ∷ ks)) then Some NoSuchNode else (if nat_eq (last_place k ks) 0 then Some AlreadyFirst else None)

  -- the first reason to refuse writing the node's label
  abbrev pub label_refusal : Plain L → List ℕ → Option TreeFault
  label_refusal t steps = if not (has_spot t steps) then Some NoSuchNode else None

-- Labels changed in place: along a path, or all in written order.
use Rattle.std.specs.Prelude.{ℕ, ◌+◌, ◌-◌, ◌^◌, min, List, [], ◌∷◌, zero, suc}
use Rattle.study_tree.specs.Forest.{Forest, none, more, nodes_in}
use Rattle.study_tree.specs.Tree.{Plain}

-- a count, increased by so many; it stays at the last value of a u64
abbrev pub counted_by : ℕ → ℕ → ℕ
counted_by k n = min (n + k) (2 ^ 64 - 1)

-- The new labels in a rewriting in written order: the root's; a node's, before those below it, from its parent's depth, its own number in that order and its
-- parent's label; and the parent's, once all labels below the node are written, from the parent's depth, the node's place and the node's label.
pub record Pass (L : Type 0) : Type 0 where
  pub begun : L → L
  pub entered : ℕ → ℕ → L → L → L
  pub joined : ℕ → ℕ → L → L → L

module _ {L : Type 0} where
  -- the labels along the path, each changed as its depth requires; the sibling nodes are at depth d
  abbrev pub changed_along : (ℕ → L → L) → ℕ → Forest L → List ℕ → Forest L
  changed_along g d f [] = f
  changed_along g d none (k ∷ ks) = none
  changed_along g d (more m l b r) (zero ∷ ks) = more m (g d l) (changed_along g (d + 1) b ks) r
  changed_along g d (more m l b r) (suc k ∷ ks) = more m l b (changed_along g d r (k ∷ ks))

  -- `changed_along` for the whole tree
  abbrev pub with_changes : (ℕ → L → L) → Plain L → List ℕ → Plain L
  with_changes g t steps = record { label = g 0 t.label; below = changed_along g 1 t.below steps }

  -- sibling nodes rewritten, and their parent's label q: the parent is at depth d, the first sibling has place k and number n
  abbrev pub rewritten : Pass L → ℕ → ℕ → ℕ → L → Forest L → L × Forest L
  rewritten p d k n q none = (q, none)
  rewritten p d k n q (more m l b r) =
      let c = rewritten p (d + 1) 0 (n + 1) (p.entered d n q l) b in
      let s = rewritten p d (suc k) (n + 1 + nodes_in b) (p.joined d k q c.0) r in
      (s.0, more m c.0 c.1 s.1)

  -- the whole tree rewritten; the root has number 0
  abbrev pub rewritten_tree : Pass L → Plain L → Plain L
  rewritten_tree p t =
      let s = rewritten p 0 0 1 (p.begun t.label) t.below in
      record { label = s.0; below = s.1 }

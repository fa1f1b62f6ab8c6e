-- The laws that relate a tree to its rows in written order.
use Rattle.std.specs.Prelude.{◌≡◌, ℕ, List, ◌∷◌, length, None, is_some, IfSome}
use Rattle.study_moves.specs.declared.moves.Move.{Move}
use Rattle.study_tree.specs.Edits.{children_at}
use Rattle.study_tree.specs.Tree.{Plain, has_spot, with_child, without, with_label, moved_up, move_up_refusal, spot_at, size_of}
use Rattle.study_tree.specs.Rows.{Row, rows, AreRows, rows_with_child, rows_without, rows_with_label, rows_moved_up, first_spot, cut_at}

-- each edit is an edit of the rows; move up, if it is not refused
abbrev pub EditsAreOfRows : Type 0 → Type 0
EditsAreOfRows L =
    ((t : Plain L) (steps : List ℕ) (m : Move) (l : L) → rows (with_child t steps m l) ≡ rows_with_child (rows t) steps m l)
    × ((t : Plain L) (k : ℕ) (ks : List ℕ) → rows (without t (k ∷ ks)) ≡ rows_without (rows t) (k ∷ ks))
    × ((t : Plain L) (steps : List ℕ) → move_up_refusal t steps ≡ None → rows (moved_up t steps) ≡ rows_moved_up (rows t) steps)
    × ((t : Plain L) (steps : List ℕ) (l : L) → rows (with_label t steps l) ≡ rows_with_label (rows t) steps l)

-- a node shows the contents of the first row of its block, and a tree has as many nodes as rows
abbrev pub NodesAreOfRows : Type 0 → Type 0
NodesAreOfRows L =
    ((t : Plain L) (steps : List ℕ) → spot_at t steps ≡ first_spot (cut_at (rows t) steps).block)
    × ((t : Plain L) → size_of t ≡ length (rows t))

-- there is a node at a path exactly if it shows something, and it has as many children as it shows
abbrev pub PlacesAreShown : Type 0 → Type 0
PlacesAreShown L = (t : Plain L) (steps : List ℕ) →
    (has_spot t steps ≡ is_some (spot_at t steps)) × IfSome (spot_at t steps) (λ s. s.children ≡ children_at t.below steps)

-- the rows of a tree have the depths and moves of rows, and each such list of rows belongs to exactly one tree
abbrev pub RowsAreWritten : Type 0 → Type 0
RowsAreWritten L =
    ((t : Plain L) → AreRows (rows t))
    × ((rs : List (Row L)) → AreRows rs → (t : Plain L) × (rows t ≡ rs))
    × ((t u : Plain L) → rows t ≡ rows u → t ≡ u)

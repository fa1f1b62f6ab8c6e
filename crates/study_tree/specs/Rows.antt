-- A tree as rows in written order: a node, all below its first child, then all below its second. Its edits are edits of the list.
use Rattle.std.specs.Prelude.{◌≡◌, ℕ, ◌≤◌, List, [], ◌∷◌, ◌++◌, Option, Some, None, is_some, true, nat_lt, nat_eq, suc, zero, if◌then◌else◌}
use Rattle.study_moves.specs.declared.moves.Move.{Move}
use Rattle.study_tree.specs.Forest.{Forest, none, more}
use Rattle.study_tree.specs.Tree.{Plain, Spot}

-- a node's depth, 0 for the root, the move that led to it, absent for the root, and its label
pub record Row (L : Type 0) : Type 0 where
  pub depth : ℕ
  pub played : Option Move
  pub label : L

-- a list of rows cut at a block: the rows before it, the block, and the rows after it
pub record Cut (L : Type 0) : Type 0 where
  pub before : List (Row L)
  pub block : List (Row L)
  pub after : List (Row L)

module _ {L : Type 0} where
  -- the rows of sibling nodes at depth d
  abbrev pub rows_in : ℕ → Forest L → List (Row L)
  rows_in d none = []
  rows_in d (more m l b r) = record { depth = d; played = Some m; label = l } ∷ (rows_in (suc d) b ++ rows_in d r)

  -- the rows of the whole tree
  abbrev pub rows : Plain L → List (Row L)
  rows t = record { depth = 0; played = None; label = t.label } ∷ rows_in 1 t.below

  -- each row has a move, and a depth of at least 1 and at most one more than the row before it, whose depth is d
  abbrev pub AreRowsBelow : ℕ → List (Row L) → Type 0
  AreRowsBelow d [] = Unit {0}
  AreRowsBelow d (r ∷ rs) = (1 ≤ r.depth) × (r.depth ≤ suc d) × (is_some r.played ≡ true) × AreRowsBelow r.depth rs

  -- the first row, and no other, has depth 0 and no move
  abbrev pub AreRows : List (Row L) → Type 0
  AreRows [] = ⊥
  AreRows (r ∷ rs) = (r.depth ≡ 0) × (r.played ≡ None) × AreRowsBelow 0 rs

  -- the first rows, as long as they are deeper than d; and the rows from the first that is not
  abbrev pub deeper : ℕ → List (Row L) → List (Row L)
  deeper d [] = []
  deeper d (r ∷ rs) = if nat_lt d r.depth then r ∷ deeper d rs else []

  abbrev pub past : ℕ → List (Row L) → List (Row L)
  past d [] = []
  past d (r ∷ rs) = if nat_lt d r.depth then past d rs else r ∷ rs

  -- the block of the first row: the row and the rows after it up to the next one of no greater depth; and the rows from that one on
  abbrev pub first_block : List (Row L) → List (Row L)
  first_block [] = []
  first_block (r ∷ rs) = r ∷ deeper r.depth rs

  abbrev pub past_block : List (Row L) → List (Row L)
  past_block [] = []
  past_block (r ∷ rs) = past r.depth rs

  -- the rows before the k-th of depth d, counted from 0; and the rows from it on
  abbrev pub before_child : ℕ → ℕ → List (Row L) → List (Row L)
  before_child d k [] = []
  before_child d zero (r ∷ rs) = if nat_eq r.depth d then [] else r ∷ before_child d zero rs
  before_child d (suc k) (r ∷ rs) = r ∷ before_child d (if nat_eq r.depth d then k else suc k) rs

  abbrev pub from_child : ℕ → ℕ → List (Row L) → List (Row L)
  from_child d k [] = []
  from_child d zero (r ∷ rs) = if nat_eq r.depth d then r ∷ rs else from_child d zero rs
  from_child d (suc k) (r ∷ rs) = from_child d (if nat_eq r.depth d then k else suc k) rs

  -- a cut with more rows before and after it
  abbrev pub around : List (Row L) → Cut L → List (Row L) → Cut L
  around x c y = record { before = x ++ c.before; block = c.block; after = c.after ++ y }

  -- a block, cut at the block of the node that the path leads to from its first row: place k is the k-th row one level deeper
  abbrev pub cut_at : List (Row L) → List ℕ → Cut L
  cut_at rs [] = record { before = []; block = rs; after = [] }
  cut_at [] (k ∷ ks) = record { before = []; block = []; after = [] }
  cut_at (r ∷ rs) (k ∷ ks) =
      around (r ∷ before_child (suc r.depth) k rs) (cut_at (first_block (from_child (suc r.depth) k rs)) ks)
      (past_block (from_child (suc r.depth) k rs))

  -- another block in place of the one that was cut
  abbrev pub replaced : (List (Row L) → List (Row L)) → Cut L → List (Row L)
  replaced edit c = c.before ++ (edit c.block ++ c.after)

  -- add last: a row after the block, one level deeper than its first row
  abbrev pub with_last_row : Move → L → List (Row L) → List (Row L)
  with_last_row m l [] = []
  with_last_row m l (r ∷ rs) = (r ∷ rs) ++ record { depth = suc r.depth; played = Some m; label = l } ∷ []

  abbrev pub rows_with_child : List (Row L) → List ℕ → Move → L → List (Row L)
  rows_with_child rs steps m l = replaced (with_last_row m l) (cut_at rs steps)

  -- relabel: another label in the block's first row
  abbrev pub with_first_label : L → List (Row L) → List (Row L)
  with_first_label l [] = []
  with_first_label l (r ∷ rs) = record r { label = l } ∷ rs

  abbrev pub rows_with_label : List (Row L) → List ℕ → L → List (Row L)
  rows_with_label rs steps l = replaced (with_first_label l) (cut_at rs steps)

  -- remove: the block is deleted
  abbrev pub rows_without : List (Row L) → List ℕ → List (Row L)
  rows_without rs steps = replaced (λ block. []) (cut_at rs steps)

  -- move up: the block is exchanged with that of the sibling before it, which is the block of the earlier cut
  abbrev pub blocks_exchanged : Cut L → Cut L → List (Row L)
  blocks_exchanged earlier c = earlier.before ++ (c.block ++ (earlier.block ++ c.after))

  -- the number of rows of depth d
  abbrev pub count_at : ℕ → List (Row L) → ℕ
  count_at d [] = 0
  count_at d (r ∷ rs) = if nat_eq r.depth d then suc (count_at d rs) else count_at d rs

  -- the contents of a block's first row: its move, its label and the number of rows of the block that are one level deeper
  abbrev pub first_spot : List (Row L) → Option (Spot L)
  first_spot [] = None
  first_spot (r ∷ rs) = Some (record { played = r.played; label = r.label; children = count_at (suc r.depth) rs })

-- the path to the sibling before
abbrev pub place_before : ℕ → ℕ
place_before zero = zero
place_before (suc k) = k

abbrev pub sibling_before : List ℕ → List ℕ
sibling_before [] = []
sibling_before (k ∷ []) = place_before k ∷ []
sibling_before (k ∷ j ∷ js) = k ∷ sibling_before (j ∷ js)

module _ {L : Type 0} where
  abbrev pub rows_moved_up : List (Row L) → List ℕ → List (Row L)
  rows_moved_up rs steps = blocks_exchanged (cut_at rs (sibling_before steps)) (cut_at rs steps)

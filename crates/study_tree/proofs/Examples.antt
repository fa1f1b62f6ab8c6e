-- Small trees and their rows, which show that the definitions mean what the comments say.
use Rattle.std.proofs.Common.{◌≡◌, ℕ, [], ◌∷◌, Some, None, refl}
use Rattle.study_moves.specs.declared.moves.Move.{Move}
use Rattle.study_tree.specs.declared.fault.TreeFault.TheVariants.{NoSuchNode, Root, AlreadyFirst}
use Rattle.study_tree.specs.Forest.{none, more}
use Rattle.study_tree.specs.Tree.{Plain, size_of, with_child, moved_up, removal_refusal, move_up_refusal, child_refusal}
use Rattle.study_tree.specs.Rows.{Row, rows, rows_with_child, rows_without, rows_with_label, rows_moved_up, cut_at, first_spot}

abbrev move_to : ℕ → Move
move_to n = record { origin = 0; target = n; promoted = None }

abbrev root : ℕ → Row ℕ
root l = record { depth = 0; played = None; label = l }

abbrev line : ℕ → ℕ → ℕ → Row ℕ
line d n l = record { depth = d; played = Some (move_to n); label = l }

-- two moves; below the first of them one more
abbrev small : Plain ℕ
small = record { label = 10; below = more (move_to 1) 11 (more (move_to 3) 13 none none) (more (move_to 2) 12 none none) }

written : rows small ≡ root 10 ∷ line 1 1 11 ∷ line 2 3 13 ∷ line 1 2 12 ∷ []
written = refl

-- the block of the first child, between the rows before it and after it
block : (cut_at (rows small) (0 ∷ [])).block ≡ line 1 1 11 ∷ line 2 3 13 ∷ []
block = refl

before_block : (cut_at (rows small) (1 ∷ [])).before ≡ root 10 ∷ line 1 1 11 ∷ line 2 3 13 ∷ []
before_block = refl

missing : (cut_at (rows small) (2 ∷ [])).block ≡ []
missing = refl

added : rows_with_child (rows small) (0 ∷ []) (move_to 4) 14 ≡ root 10 ∷ line 1 1 11 ∷ line 2 3 13 ∷ line 2 4 14 ∷ line 1 2 12 ∷ []
added = refl

added_to_root : rows (with_child small [] (move_to 4) 14) ≡ root 10 ∷ line 1 1 11 ∷ line 2 3 13 ∷ line 1 2 12 ∷ line 1 4 14 ∷ []
added_to_root = refl

removed : rows_without (rows small) (0 ∷ []) ≡ root 10 ∷ line 1 2 12 ∷ []
removed = refl

exchanged : rows_moved_up (rows small) (1 ∷ []) ≡ root 10 ∷ line 1 2 12 ∷ line 1 1 11 ∷ line 2 3 13 ∷ []
exchanged = refl

relabelled : rows_with_label (rows small) (0 ∷ 0 ∷ []) 15 ≡ root 10 ∷ line 1 1 11 ∷ line 2 3 15 ∷ line 1 2 12 ∷ []
relabelled = refl

same_trees : rows (moved_up small (1 ∷ [])) ≡ rows_moved_up (rows small) (1 ∷ [])
same_trees = refl

shown : first_spot (cut_at (rows small) (0 ∷ [])).block ≡ Some (record { played = Some (move_to 1); label = 11; children = 1 })
shown = refl

size : size_of small ≡ 4
size = refl

no_node_first : child_refusal small (2 ∷ []) ≡ Some NoSuchNode
no_node_first = refl

no_node_before_first : move_up_refusal small (5 ∷ 0 ∷ []) ≡ Some NoSuchNode
no_node_before_first = refl

first_stays : move_up_refusal small (0 ∷ []) ≡ Some AlreadyFirst
first_stays = refl

root_stays : removal_refusal small [] ≡ Some Root
root_stays = refl

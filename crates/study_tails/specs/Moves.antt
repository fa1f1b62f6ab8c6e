-- The effect of a move in a game's text.
use Rattle.std.specs.Prelude.{◌≡◌, ℕ, Bool, true, false, List, length, nat_le, Option, Some, None, Result, Ok, Err}
use Rattle.study_moves.specs.declared.moves.Move.{Move}
use Rattle.study_notation.specs.declared.fault.SanFault.{SanFault}
use Rattle.study_tree.specs.declared.fault.TreeFault.{TreeFault}
use Rattle.study_tree.specs.declared.fault.TreeFault.TheVariants as tree
use Rattle.study_tree.specs.Edits.{children_at}
use Rattle.study_tree.specs.Tree.{size_of, with_child}
use Rattle.study_marks.specs.Study.{place_at}
use Rattle.study_wide.specs.Rules.{is_wide_legal}
use Rattle.study_wide_text.specs.Matching.{wide_move_of}
use Rattle.study_reading.specs.declared.moves.MoveFault.{MoveFault}
use Rattle.study_reading.specs.declared.moves.MoveFault.TheVariants.{NoSuchNode, San, TooDeep, TreeFull, OutOfMemory}
use Rattle.study_reading.specs.declared.moves.Step.{Step}
use Rattle.study_tails.specs.declared.moves.Meant.{Meant}
use Rattle.study_reading.specs.Followed.{After}
use Rattle.study_tails.specs.Study.{WideStudy, Node, node_at}

-- the study with one more move, the last child of the node
abbrev pub with_wide_insertion : WideStudy → List ℕ → Move → WideStudy
with_wide_insertion s at m = record s { tree = with_child s.tree at m tt }

-- the study after a move, and the child to which the move leads
abbrev pub WideAfter : Type 0
WideAfter = After WideStudy

-- the child that has the move, or a new one, the last, within the limits
abbrev pub wide_child_or_added : WideStudy → List ℕ → Move → Option ℕ → Bool → Bool → Result WideAfter MoveFault
wide_child_or_added s at m (Some k) deep full = Ok (record { study = s; step = record { place = k; added = None } })
wide_child_or_added s at m None true full = Err TooDeep
wide_child_or_added s at m None false true = Err TreeFull
wide_child_or_added s at m None false false =
    Ok (record { study = with_wide_insertion s at m; step = record { place = children_at s.tree.below at; added = Some m } })

unfoldable pub wide_moved_by : WideStudy → List ℕ → Move → Result WideAfter MoveFault
wide_moved_by s at m = wide_child_or_added s at m (place_at s.tree.below at m) (nat_le 256 (length at)) (nat_le 4096 (size_of s.tree))

abbrev pub wide_after_san : WideStudy → List ℕ → Result Move SanFault → Result WideAfter MoveFault
wide_after_san s at (Err fault) = Err (San fault)
wide_after_san s at (Ok m) = wide_moved_by s at m

abbrev pub wide_after_text_at : WideStudy → List ℕ → List ℕ → Option Node → Result WideAfter MoveFault
wide_after_text_at s at san None = Err NoSuchNode
wide_after_text_at s at san (Some n) = wide_after_san s at (wide_move_of n.start.position san)

-- the move that the text means at the node is made there
unfoldable pub wide_after_move_text : WideStudy → List ℕ → List ℕ → Result WideAfter MoveFault
wide_after_move_text s at san = wide_after_text_at s at san (node_at s at)

-- the result, and the study after it, unless there was no memory
abbrev pub WideComes : Result Step MoveFault → WideStudy → WideStudy → Result WideAfter MoveFault → Type 0
WideComes (Ok step) old new expected = expected ≡ Ok (record { study = new; step = step })
WideComes (Err OutOfMemory) old new expected = new ≡ old
WideComes (Err fault) old new expected = (expected ≡ Err fault) × (new ≡ old)

-- there is a node, and the move is legal in its position
abbrev pub IsLegalAt : Move → Option Node → Type 0
IsLegalAt m None = ⊥
IsLegalAt m (Some n) = is_wide_legal n.start.position m ≡ true

-- Not part of any public contract: the fault of a move for that of a tree that gets one more child
abbrev pub move_fault_of : TreeFault → MoveFault
move_fault_of tree.TooDeep = TooDeep
move_fault_of tree.TreeFull = TreeFull
move_fault_of tree.OutOfMemory = OutOfMemory
move_fault_of other = NoSuchNode

-- Not part of any public contract: the move that a text means at a node, with the place of the child that has it, or why there is none
abbrev pub IsMeantIn : Result Meant MoveFault → WideStudy → List ℕ → List ℕ → Option Node → Type 0
IsMeantIn r s at san None = r ≡ Err NoSuchNode
IsMeantIn (Ok m) s at san (Some n) =
    (wide_move_of n.start.position san ≡ Ok m.played) × (m.place ≡ place_at s.tree.below at m.played) × (is_wide_legal n.start.position m.played ≡ true)
IsMeantIn (Err (San fault)) s at san (Some n) = wide_move_of n.start.position san ≡ Err fault
IsMeantIn (Err fault) s at san (Some n) = ⊥

abbrev pub IsMeantAt : Result Meant MoveFault → WideStudy → List ℕ → List ℕ → Type 0
IsMeantAt r s at san = IsMeantIn r s at san (node_at s at)

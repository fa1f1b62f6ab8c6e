-- The statements of the public laws.
use Rattle.std.specs.Prelude.{◌≡◌, ◌==◌, ℕ, ◌+◌, true, List, [], ◌∷◌, take, Some, None, if◌then◌else◌}
use Rattle.study_board.specs.Position.{Position, IsValid}
use Rattle.study_moves.specs.declared.moves.Move.{Move}
use Rattle.study_moves.specs.Rules.{is_legal, after}
use Rattle.study_values.specs.declared.value.Value.{Value}
use Rattle.study_values.specs.Game.{IsValueOf}
use Rattle.study_moves.specs.LegalList.{legal_list}
use Rattle.study_notation.specs.declared.start.Start.{Start}
use Rattle.study_tree.specs.Tree.{Spot, spot_at, move_up_refusal}
use Rattle.study_tree.specs.Rows.{rows, cut_at, rows_with_child, rows_without, rows_moved_up}
use Rattle.study_marks.specs.declared.mark.Mark.{Mark}
use Rattle.study_marks.specs.Study.{Study, plain_study, same_move}
use Rattle.study_marks.specs.declared.mark.MoveMark.TheVariants.{Only, Dual}
use Rattle.study_marks.specs.declared.mark_rules.Aim.{Aim}
use Rattle.study_marks.specs.Goals.{aim_of, hero_moves, holds}
use Rattle.study_marks.specs.Marks.{move_mark}
use Rattle.study_marks.specs.Annotated.{AreValuesAfter, IsAnnotated}
use Rattle.study_marks.specs.Blocks.{block_faults}
use Rattle.study_marks.specs.Edits.{PlainStudy, with_position, with_start, with_insertion, with_deletion, with_promotion}

-- a plain study has exactly one annotation
abbrev pub AnnotationsAreUnique : Type 0
AnnotationsAreUnique = (s t : Study Mark) → IsAnnotated s → IsAnnotated t → plain_study s ≡ plain_study t → s ≡ t

-- The edits of a plain study are edits of its rows in written order: another position keeps only the root's row, another start keeps all rows, an inserted
-- move is a row after the block of its parent, a deletion deletes the block, and a promotion exchanges the block with that of the sibling before it.
abbrev pub StudyEditsAreOfRows : Type 0
StudyEditsAreOfRows =
    ((s : PlainStudy) (start : Start) → rows (with_position s start).tree ≡ take 1 (rows s.tree))
    × ((s : PlainStudy) (start : Start) → rows (with_start s start).tree ≡ rows s.tree)
    × ((s : PlainStudy) (steps : List ℕ) (m : Move) → rows (with_insertion s steps m).tree ≡ rows_with_child (rows s.tree) steps m tt)
    × ((s : PlainStudy) (k : ℕ) (ks : List ℕ) → rows (with_deletion s (k ∷ ks)).tree ≡ rows_without (rows s.tree) (k ∷ ks))
    × ((s : PlainStudy) (steps : List ℕ) → move_up_refusal s.tree steps ≡ None → rows (with_promotion s steps).tree ≡ rows_moved_up (rows s.tree) steps)

-- In an annotated study each node has the faults of its block of rows: those of the rows that solution steps join to the block's first.
abbrev pub FaultsAreOfRows : Type 0
FaultsAreOfRows =
    (s : Study Mark) → IsAnnotated s → (steps : List ℕ) (x : Spot Mark) → spot_at s.tree steps ≡ Some x
    → x.label.faults ≡ block_faults (aim_of s) (cut_at (rows s.tree) steps).block

-- the number of these moves, other than m, that lead to a position at depth d that holds, by the values after them
abbrev pub others_that_hold : Aim → ℕ → Move → List Move → List Value → ℕ
others_that_hold a d m [] vs = 0
others_that_hold a d m (n ∷ ms) [] = 0
others_that_hold a d m (n ∷ ms) (v ∷ vs) =
    (if same_move m n then 0 else (if holds a d v then 1 else 0)) + others_that_hold a d m ms vs

-- A move of the hero from a position that holds to another is the only one, or a dual with the number of the other legal
-- moves that lead to a position that holds.
abbrev pub DualCountsOthers : Type 0
DualCountsOthers =
    (a : Aim) (d : ℕ) (p : Position) (m : Move) (v : Value) (all : List Value) (w : Value) → IsValid p
    → is_legal p m ≡ true → AreValuesAfter p (legal_list p) all
    → IsValueOf (after p m) w → hero_moves a d ≡ true → holds a d v ≡ true → holds a (d + 1) w ≡ true
    → move_mark a d v all w ≡ (if others_that_hold a (d + 1) m (legal_list p) all == 0 then Only else Dual (others_that_hold a (d + 1) m (legal_list p) all))

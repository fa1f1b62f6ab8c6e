-- The mark of a move that is tried at a node, and the mark that it has after its insertion.
use Rattle.std.specs.Prelude.{◌≡◌, ℕ, ◌++◌, List, [], ◌∷◌, Some, IsTrue}
use Rattle.study_moves.specs.declared.moves.Move.{Move}
use Rattle.study_tree.specs.Edits.{children_at}
use Rattle.study_tree.specs.Tree.{has_spot, spot_at}
use Rattle.study_marks.specs.declared.mark.Mark.{Mark}
use Rattle.study_marks.specs.Annotated.{IsAnnotated}
use Rattle.study_marks.specs.Edits.{with_insertion}
use Rattle.study_marks.specs.Study.{Study, plain_study}
use Rattle.study_marks.specs.Trial.{IsMarkOf}

-- If a move is inserted below a node, the annotation from scratch has the move's mark, value and faults at the new node, which is the last child.
abbrev pub MarksOfMovesAreThoseOfInsertions : Type 0
MarksOfMovesAreThoseOfInsertions =
    (s t : Study Mark) (path : List ℕ) (m : Move) (mark : Mark) → IsAnnotated s → IsAnnotated t
    → plain_study t ≡ with_insertion (plain_study s) path m → IsTrue (has_spot s.tree path) → IsMarkOf s path m mark
    → spot_at t.tree (path ++ children_at s.tree.below path ∷ []) ≡ Some (record { played = Some m; label = mark; children = 0 })

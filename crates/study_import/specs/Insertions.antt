-- The insertions that make a game's tree.
use Rattle.std.specs.Prelude.{◌≡◌, ℕ, List, [], ◌∷◌, ◌++◌, Some, None, Ok}
use Rattle.study_moves.specs.declared.moves.Move.{Move}
use Rattle.study_notation.specs.Matching.{move_of}
use Rattle.study_notation.specs.SanSpelling.{move_text}
use Rattle.study_marks.specs.Study.{position_at}
use Rattle.study_marks.specs.Edits.{PlainStudy, with_insertion, insert_refusal}
use Rattle.study_import.specs.Moves.{insert_line}
use Rattle.study_import.specs.FewMen.{Reading}

-- the path of a node, and the move that is inserted there
abbrev pub Insertion : Type 0
Insertion = List ℕ × Move

-- the study after these insertions
abbrev pub made_by : PlainStudy → List Insertion → PlainStudy
made_by s [] = s
made_by s (i ∷ more) = made_by (with_insertion s i.0 i.1) more

-- none of them is refused in its turn
abbrev pub AllAccepted : Type 0 → PlainStudy → List Insertion → Type 0
AllAccepted A s [] = Unit {0}
AllAccepted A s (i ∷ more) = (insert_refusal {A = A} s i.0 i.1 ≡ None) × AllAccepted A (with_insertion s i.0 i.1) more

-- the text of each move, as in the lines, is read in its turn as that move
abbrev pub AllReadAgain : PlainStudy → List Insertion → Type 0
AllReadAgain s [] = Unit {0}
AllReadAgain s (i ∷ more) = (move_of (position_at s i.0) (move_text (position_at s i.0) i.1) ≡ Ok i.1) × AllReadAgain (with_insertion s i.0 i.1) more

-- the lines of the script with these insertions
abbrev pub lines_for : PlainStudy → List Insertion → List ℕ
lines_for s [] = []
lines_for s (i ∷ more) = insert_line (position_at s i.0) i.0 (Some i.1) ++ lines_for (with_insertion s i.0 i.1) more

-- insertions lead from the first of these readings to the second: none is refused, they make the study, and its lines are theirs
pub record Leads (A : Type 0) (r now : Reading) : Type 0 where
  pub insertions : List Insertion
  pub accepted : AllAccepted A r.study insertions
  pub study : now.study ≡ made_by r.study insertions
  pub lines : now.inserts ≡ r.inserts ++ lines_for r.study insertions

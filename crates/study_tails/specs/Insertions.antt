-- The insertions that make a tree, one after the other.
use Rattle.std.specs.Prelude.{◌≡◌, ℕ, ◌≤◌, suc, List, [], ◌∷◌, ◌++◌, None, codes}
use Rattle.study_text.specs.Paths.{path_text}
use Rattle.study_board.specs.Position.{Position, IsValid}
use Rattle.study_moves.specs.declared.moves.Move.{Move}
use Rattle.study_notation.specs.SanSpelling.{move_text}
use Rattle.study_tree.specs.Forest.{none, more}
use Rattle.study_tree.specs.Edits.{IsWithin}
use Rattle.study_tree.specs.Tree.{size_of}
use Rattle.study_marks.specs.Study.{position_at, IsPlayable, AreDistinct}
use Rattle.study_marks.specs.Edits.{PlainStudy, with_insertion, insert_refusal}
use Rattle.study_wide.specs.Rules.{widen}
use Rattle.study_tails.specs.Study.{Moves}
use Rattle.study_tails.specs.Lines.{insert_lines}

-- the path of a node, and the move that is inserted there
abbrev pub Insertion : Type 0
Insertion = List ℕ × Move

-- in written order, those of siblings below the node, the first of which has the place k
abbrev pub insertions : List ℕ → ℕ → Moves → List Insertion
insertions at k none = []
insertions at k (more m l b r) = (at, m) ∷ (insertions (at ++ k ∷ []) 0 b ++ insertions at (suc k) r)

-- the study after these insertions
abbrev pub made_by : PlainStudy → List Insertion → PlainStudy
made_by s [] = s
made_by s (i ∷ is) = made_by (with_insertion s i.0 i.1) is

-- none of them is refused in its turn
abbrev pub AllAccepted : Type 0 → PlainStudy → List Insertion → Type 0
AllAccepted A s [] = Unit {0}
AllAccepted A s (i ∷ is) = (insert_refusal {A = A} s i.0 i.1 ≡ None) × AllAccepted A (with_insertion s i.0 i.1) is

-- `insert PATH SAN` by the rules for four men
abbrev pub plain_line : Position → List ℕ → Move → List ℕ
plain_line p at m = codes "insert " ++ (path_text at ++ (codes " " ++ (move_text p m ++ codes "\n")))

-- the lines of a script with these insertions
abbrev pub lines_for : PlainStudy → List Insertion → List ℕ
lines_for s [] = []
lines_for s (i ∷ is) = plain_line (position_at s i.0) i.0 i.1 ++ lines_for (with_insertion s i.0 i.1) is

-- the study with the root alone
abbrev pub root_alone : PlainStudy → PlainStudy
root_alone u = record u { tree = record { label = tt; below = none } }

-- a study of four men as a bench has it
pub record IsPlain (u : PlainStudy) : Type 0 where
  pub valid : IsValid u.start.position
  pub playable : IsPlayable u.start.position u.tree.below
  pub distinct : AreDistinct u.tree.below
  pub shallow : IsWithin 256 u.tree.below
  pub few : size_of u.tree ≤ 4096

-- the lines of the study insert its moves one by one: each is accepted in its turn, and they make its tree
pub record IsBuilt (A : Type 0) (u : PlainStudy) : Type 0 where
  pub accepted : AllAccepted A (root_alone u) (insertions [] 0 u.tree.below)
  pub made : made_by (root_alone u) (insertions [] 0 u.tree.below) ≡ u
  pub lines : insert_lines [] (widen u.start.position) [] 0 u.tree.below ≡ lines_for (root_alone u) (insertions [] 0 u.tree.below)

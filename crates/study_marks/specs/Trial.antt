-- A move tried at a node, without inserting it.
use Rattle.std.specs.Prelude.{◌≡◌, ℕ, not, List, length, Option, Some, None, if◌then◌else◌}
use Rattle.study_moves.specs.declared.moves.Move.{Move}
use Rattle.study_moves.specs.Rules.{is_legal}
use Rattle.study_tree.specs.Forest.{none, more}
use Rattle.study_tree.specs.Tree.{Spot, has_spot, spot_at}
use Rattle.study_marks.specs.declared.mark.Mark.{Mark}
use Rattle.study_marks.specs.declared.refusal.Refusal.{Refusal}
use Rattle.study_marks.specs.declared.refusal.Refusal.TheVariants.{NoSuchNode, IllegalMove}
use Rattle.study_marks.specs.Study.{Study, position_at}
use Rattle.study_marks.specs.Goals.{aim_of}
use Rattle.study_marks.specs.Annotated.{AreAnnotated}
use Rattle.study_marks.specs.Edits.{PlainStudy}

-- the first reason not to try a move, apart from tables and memory
abbrev pub trial_refusal : {A : Type 0} → PlainStudy → List ℕ → Move → Option (Refusal A)
trial_refusal s steps m =
    if not (has_spot s.tree steps) then Some NoSuchNode
    else (if not (is_legal (position_at s steps) m) then Some IllegalMove else None)

-- a new node with this move, and without children, would have this mark below the node
abbrev pub IsMarkOf : Study Mark → List ℕ → Move → Mark → Type 0
IsMarkOf s steps m mark =
    (x : Spot Mark) → spot_at s.tree steps ≡ Some x
    → AreAnnotated (aim_of s) (length steps) (position_at s steps) x.label.value (more m mark none none)

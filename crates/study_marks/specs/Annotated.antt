-- A study whose marks are the result of annotating it from scratch.
use Rattle.std.specs.Prelude.{◌≡◌, ℕ, ◌+◌, List, [], ◌∷◌, Some, None}
use Rattle.study_board.specs.Position.{Position}
use Rattle.study_moves.specs.declared.moves.Move.{Move}
use Rattle.study_moves.specs.Rules.{after}
use Rattle.study_values.specs.declared.value.Value.{Value}
use Rattle.study_values.specs.Game.{IsValueOf}
use Rattle.study_moves.specs.LegalList.{legal_list}
use Rattle.study_tree.specs.Forest.{Forest, none, more}
use Rattle.study_marks.specs.declared.mark.MoveMark.{MoveMark}
use Rattle.study_marks.specs.declared.mark.Mark.{Mark}
use Rattle.study_marks.specs.Study.{Study}
use Rattle.study_marks.specs.declared.mark_rules.Aim.{Aim}
use Rattle.study_marks.specs.Goals.{aim_of, hero_moves}
use Rattle.study_marks.specs.Marks.{move_mark, own_faults, faults_in}

-- the game's values of the positions after the moves
abbrev pub AreValuesAfter : Position → List Move → List Value → Type 0
AreValuesAfter p [] [] = Unit {0}
AreValuesAfter p [] (v ∷ vs) = ⊥
AreValuesAfter p (m ∷ ms) [] = ⊥
AreValuesAfter p (m ∷ ms) (v ∷ vs) = IsValueOf (after p m) v × AreValuesAfter p ms vs

-- the mark of the move from p, at depth d and with the value v, to a position with the value w, by the game's values after all legal moves of p
abbrev pub IsMoveMark : Aim → ℕ → Position → Value → Value → MoveMark → Type 0
IsMoveMark a d p v w mark = (all : List Value) × AreValuesAfter p (legal_list p) all × (mark ≡ move_mark a d v all w)

-- the marks of sibling nodes: their moves are made in p, at depth d and with the value v
abbrev pub AreAnnotated : Aim → ℕ → Position → Value → Forest Mark → Type 0
AreAnnotated a d p v none = Unit {0}
AreAnnotated a d p v (more m x b r) =
    IsValueOf (after p m) x.value
    × ((mark : MoveMark) × (x.on_move ≡ Some mark) × IsMoveMark a d p v x.value mark)
    × (x.faults ≡ own_faults (hero_moves a d) x.on_move + faults_in a (d + 1) b)
    × AreAnnotated a (d + 1) (after p m) x.value b
    × AreAnnotated a d p v r

-- Each node has the value of the game, the mark of its move, and its faults.
pub record IsAnnotated (s : Study Mark) : Type 0 where
  pub value : IsValueOf s.start.position s.tree.label.value
  pub no_move : s.tree.label.on_move ≡ None
  pub faults : s.tree.label.faults ≡ faults_in (aim_of s) 0 s.tree.below
  pub below : AreAnnotated (aim_of s) 0 s.start.position s.tree.label.value s.tree.below

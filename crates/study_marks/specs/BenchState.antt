-- The labels of a bench, and a bench as contracts see it.
use Rattle.std.specs.Prelude.{◌≡◌, ℕ, ◌+◌, Bool, true, nat_le, List, length, Option, Some, None, if◌then◌else◌}
use Rattle.std.specs.List.{count_by, All}
use Rattle.study_board.specs.Position.{Position, IsValid}
use Rattle.study_moves.specs.Rules.{after}
use Rattle.study_values.specs.declared.value.Value.{Value}
use Rattle.study_moves.specs.LegalList.{legal_list}
use Rattle.study_tree.specs.Forest.{Forest, none, more}
use Rattle.study_tree.specs.Tree.{Plain}
use Rattle.study_tree.specs.Edits.{IsWithin}
use Rattle.study_marks.specs.declared.stipulation.Goal.{Goal}
use Rattle.study_marks.specs.declared.stipulation.Goal.TheVariants.{Win, Draw, MateIn}
use Rattle.study_marks.specs.declared.mark.MoveMark.{MoveMark}
use Rattle.study_marks.specs.declared.mark.Mark.{Mark}
use Rattle.study_marks.specs.declared.node_label.NodeLabel.{NodeLabel}
use Rattle.study_marks.specs.declared.node_label.Evaluation.{Evaluation}
use Rattle.study_marks.specs.MoveOutcomes.{MoveOutcomes, tally_of}
use Rattle.study_marks.specs.Study.{Study, mapped_tree, IsPlayable, AreDistinct}
use Rattle.study_marks.specs.declared.mark_rules.Aim.{Aim}
use Rattle.study_marks.specs.Goals.{aim_of, hero_moves, holds, plies_of}
use Rattle.study_marks.specs.Marks.{mark_of, own_faults}
use Rattle.study_marks.specs.Annotated.{AreValuesAfter, IsAnnotated}
use Rattle.study_marks.specs.Edits.{is_tag_text}

-- a bench as contracts see it: the study with the labels of its nodes, and the number of labels written
pub record BenchState : Type 0 where
  pub study : Study NodeLabel
  pub relabelled : ℕ

-- the labels of the nodes without the faults: the evaluations
abbrev pub evaluation_tree : Plain NodeLabel → Plain Evaluation
evaluation_tree t = mapped_tree (λ l. l.evaluated) t

-- the number of tallied moves that lead to a position at depth d that holds, if the hero makes them
abbrev pub count_holding : Goal → Bool → ℕ → MoveOutcomes → ℕ
count_holding Win first d t = length t.mates
count_holding Draw first d t = length t.mates + t.draws
count_holding (MateIn k) first d t = count_by (λ n. nat_le (d + n) (plies_of first k)) t.mates

-- the mark of a move to a position with the value w, from the evaluation q of the node before it, which is at depth d
abbrev pub mark_by_label : Aim → ℕ → Evaluation → Value → MoveMark
mark_by_label a d q w = mark_of (hero_moves a d) (holds a d q.value) (holds a (d + 1) w) (count_holding a.goal a.hero_first (d + 1) q.tally)

-- the marks that a bench shows: of sibling nodes, whose moves are made at depth d at the node with the evaluation q
abbrev pub shown_mark : Aim → ℕ → Evaluation → NodeLabel → Mark
shown_mark a d q l = record { value = l.evaluated.value; on_move = Some (mark_by_label a d q l.evaluated.value); faults = l.faults }

abbrev pub shown_marks : Aim → ℕ → Evaluation → Forest NodeLabel → Forest Mark
shown_marks a d q none = none
shown_marks a d q (more m l b r) = more m (shown_mark a d q l) (shown_marks a (d + 1) l.evaluated b) (shown_marks a d q r)

abbrev pub shown_root : NodeLabel → Mark
shown_root l = record { value = l.evaluated.value; on_move = None; faults = l.faults }

abbrev pub shown_tree : Aim → Plain NodeLabel → Plain Mark
shown_tree a t = record { label = shown_root t.label; below = shown_marks a 0 t.label.evaluated t.below }

-- the study with the marks that the readers show
abbrev pub marked_study : BenchState → Study Mark
marked_study k = record { start = k.study.start; stipulation = k.study.stipulation; tags = k.study.tags; tree = shown_tree (aim_of k.study) k.study.tree }

-- the tally of the game's values after each legal move
abbrev pub IsTallied : Position → MoveOutcomes → Type 0
IsTallied p t = (all : List Value) × AreValuesAfter p (legal_list p) all × (t ≡ tally_of all)

abbrev pub AreTallied : Position → Forest NodeLabel → Type 0
AreTallied p none = Unit {0}
AreTallied p (more m l b r) = IsTallied (after p m) l.evaluated.tally × AreTallied (after p m) b × AreTallied p r

-- The marks are those of annotating from scratch, and the evaluations from which they are computed are right.
pub record IsKeptRight (k : BenchState) : Type 0 where
  pub marks : IsAnnotated (marked_study k)
  pub root : IsTallied k.study.start.position k.study.tree.label.evaluated.tally
  pub tallies : AreTallied k.study.start.position k.study.tree.below

-- Faults that add up: each node's are its own and those that its children count for it.
abbrev pub all_faults : Forest NodeLabel → ℕ
all_faults none = 0
all_faults (more m l b r) = l.faults + all_faults r

-- the faults of each child if the opponent moves, of the first alone if the hero does
abbrev pub faults_below : Bool → Forest NodeLabel → ℕ
faults_below hero none = 0
faults_below hero (more m l b r) = l.faults + (if hero then 0 else all_faults r)

abbrev pub own_fault : Aim → ℕ → Evaluation → Value → ℕ
own_fault a d q v = own_faults (hero_moves a d) (Some (mark_by_label a d q v))

abbrev pub FaultsAddUp : Aim → ℕ → Evaluation → Forest NodeLabel → Type 0
FaultsAddUp a d q none = Unit {0}
FaultsAddUp a d q (more m l b r) =
    (l.faults ≡ own_fault a d q l.evaluated.value + faults_below (hero_moves a (d + 1)) b) × FaultsAddUp a (d + 1) l.evaluated b × FaultsAddUp a d q r

abbrev pub AllAddUp : Aim → Plain NodeLabel → Type 0
AllAddUp a t = (t.label.faults ≡ faults_below (hero_moves a 0) t.below) × FaultsAddUp a 0 t.label.evaluated t.below

abbrev pub IsTag : Option (List ℕ) → Type 0
IsTag None = Unit {0}
IsTag (Some text) = is_tag_text text ≡ true

-- the invariants of the study of a bench
pub record IsStudy {L : Type 0} (s : Study L) : Type 0 where
  pub valid : IsValid s.start.position
  pub playable : IsPlayable s.start.position s.tree.below
  pub distinct : AreDistinct s.tree.below
  pub shallow : IsWithin 256 s.tree.below
  pub printed : All IsTag s.tags

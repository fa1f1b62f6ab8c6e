-- Not part of any public contract: faults that are updated along a path.
use Rattle.std.specs.Prelude.{◌≡◌, ℕ, ◌+◌, ◌-◌, ◌^◌, min, nat_le, not, ◌&&◌, Bool, true, List, [], ◌∷◌, Option, Some, None, zero, suc, if◌then◌else◌}
use Rattle.study_tree.specs.Forest.{Forest, none, more}
use Rattle.study_tree.specs.Tree.{Plain, Spot}
use Rattle.study_marks.specs.declared.node_label.NodeLabel.{NodeLabel}
use Rattle.study_marks.specs.declared.node_label.Evaluation.{Evaluation}
use Rattle.study_marks.specs.declared.mark_rules.Aim.{Aim}
use Rattle.study_marks.specs.Goals.{hero_moves}
use Rattle.study_marks.specs.BenchState.{own_fault, faults_below, FaultsAddUp}

-- the evaluation of the path's node, if q is the evaluation of the path's start
abbrev pub evaluation_at : Evaluation → Forest NodeLabel → List ℕ → Evaluation
evaluation_at q f [] = q
evaluation_at q none (k ∷ ks) = q
evaluation_at q (more m l b r) (zero ∷ ks) = evaluation_at l.evaluated b ks
evaluation_at q (more m l b r) (suc k ∷ ks) = evaluation_at q r (k ∷ ks)

-- the faults that a child at place k with n faults counts for its parent; `hero`: the hero moves there
abbrev pub counted_faults : Bool → ℕ → ℕ → ℕ
counted_faults hero zero n = n
counted_faults hero (suc k) n = if hero then 0 else n

-- a child at this place counts all its faults for its parent
abbrev pub counts_all : Bool → ℕ → Bool
counts_all hero zero = true
counts_all hero (suc k) = not hero

-- the least depth from which on a change of the faults of the path's node counts at each node of the path; the path begins at depth d
abbrev pub counted_from_depth : Aim → ℕ → List ℕ → ℕ
counted_from_depth a d [] = d
counted_from_depth a d (k ∷ ks) =
    if nat_le (counted_from_depth a (d + 1) ks) (d + 1) && counts_all (hero_moves a d) k then d else counted_from_depth a (d + 1) ks

-- n faults with `minus` removed and `plus` added
abbrev pub faults_after_change : ℕ → ℕ → ℕ → ℕ
faults_after_change minus plus n = min (n + plus - minus) (2 ^ 32 - 1)

-- the new label of a path's node at depth d, if the change counts from depth `from` on
abbrev pub label_moved : ℕ → ℕ → ℕ → ℕ → NodeLabel → NodeLabel
label_moved from minus plus d l = if nat_le from d then record { evaluated = l.evaluated; faults = faults_after_change minus plus l.faults } else l

-- the faults of a node are right, except at the path's node: there `minus` is still counted and `plus` is not yet
abbrev pub FaultAddsUp : ℕ → ℕ → List ℕ → ℕ → ℕ → Type 0
FaultAddsUp n right [] minus plus = n + plus ≡ right + minus
FaultAddsUp n right (k ∷ ks) minus plus = n ≡ right

abbrev pub FaultsAddUpExceptOnPath : Aim → ℕ → Evaluation → Forest NodeLabel → List ℕ → ℕ → ℕ → Type 0
FaultsAddUpExceptOnPath a d q f [] minus plus = FaultsAddUp a d q f
FaultsAddUpExceptOnPath a d q none (k ∷ ks) minus plus = Unit {0}
FaultsAddUpExceptOnPath a d q (more m l b r) (zero ∷ ks) minus plus =
    FaultAddsUp l.faults (own_fault a d q l.evaluated.value + faults_below (hero_moves a (d + 1)) b) ks minus plus
    × FaultsAddUpExceptOnPath a (d + 1) l.evaluated b ks minus plus × FaultsAddUp a d q r
FaultsAddUpExceptOnPath a d q (more m l b r) (suc k ∷ ks) minus plus =
    (l.faults ≡ own_fault a d q l.evaluated.value + faults_below (hero_moves a (d + 1)) b)
    × FaultsAddUp a (d + 1) l.evaluated b × FaultsAddUpExceptOnPath a d q r (k ∷ ks) minus plus

abbrev pub FaultsAreOffBy : Aim → Plain NodeLabel → List ℕ → ℕ → ℕ → Type 0
FaultsAreOffBy a t ks minus plus =
    FaultAddsUp t.label.faults (faults_below (hero_moves a 0) t.below) ks minus plus × FaultsAddUpExceptOnPath a 0 t.label.evaluated t.below ks minus plus

-- the faults of a node, 0 if it does not exist
abbrev pub faults_of : Option (Spot NodeLabel) → ℕ
faults_of None = 0
faults_of (Some s) = s.label.faults

-- the forest below the path's node
abbrev pub below_at : {L : Type 0} → Forest L → List ℕ → Forest L
below_at f [] = f
below_at none (k ∷ ks) = none
below_at (more m l b r) (zero ∷ ks) = below_at b ks
below_at (more m l b r) (suc k ∷ ks) = below_at r (k ∷ ks)

-- the nodes from a place on
abbrev pub siblings_from : {L : Type 0} → ℕ → Forest L → Forest L
siblings_from zero f = f
siblings_from (suc k) none = none
siblings_from (suc k) (more m l b r) = siblings_from k r

-- when a node is deleted: the faults of its successor that the parent did not count before
abbrev pub faults_newly_first : Bool → ℕ → ℕ → ℕ
faults_newly_first hero zero n = if hero then n else 0
faults_newly_first hero (suc k) n = 0

-- when a node is exchanged with the one before it: its faults, if the parent's count changes by them
abbrev pub faults_of_first : Bool → ℕ → ℕ → ℕ
faults_of_first hero zero n = 0
faults_of_first hero (suc zero) n = if hero then n else 0
faults_of_first hero (suc (suc k)) n = 0

-- The change of a node's faults with those of its children.
use Rattle.std.proofs.Common.{◌≡◌, ℕ, ◌+◌, List, [], ◌∷◌, length, Bool, refl, sym, ap, ◌∙◌, arith, zero, suc, subst}
use Rattle.std.specs.Prelude.{if◌then◌else◌}
use Rattle.study_tree.specs.Forest.{Forest, none, more}
use Rattle.study_tree.specs.Edits.{below_edited}
use Rattle.study_marks.specs.declared.node_label.NodeLabel.{NodeLabel}
use Rattle.study_marks.specs.declared.node_label.Evaluation.{Evaluation}
use Rattle.study_marks.specs.declared.mark_rules.Aim.{Aim}
use Rattle.study_marks.specs.Goals.{hero_moves}
use Rattle.study_marks.specs.BenchState.{own_fault, all_faults, faults_below, FaultsAddUp}
use Rattle.study_marks.specs.FaultSums.{evaluation_at, FaultsAddUpExceptOnPath, below_at}

all-edited : (edit : Forest NodeLabel → Forest NodeLabel) (f : Forest NodeLabel) (k : ℕ) (ks : List ℕ)
    → all_faults (below_edited edit f (k ∷ ks)) ≡ all_faults f
all-edited edit none k ks = refl
all-edited edit (more m l b r) zero ks = refl
all-edited edit (more m l b r) (suc k) ks = ap (λ s. l.faults + s) (all-edited edit r k ks)

below-edited : (hero : Bool) (edit : Forest NodeLabel → Forest NodeLabel) (f : Forest NodeLabel) (k : ℕ) (ks : List ℕ)
    → faults_below hero (below_edited edit f (k ∷ ks)) ≡ faults_below hero f
below-edited hero edit none k ks = refl
below-edited hero edit (more m l b r) zero ks = refl
below-edited hero edit (more m l b r) (suc k) ks = ap (λ s. l.faults + (if hero then 0 else s)) (all-edited edit r k ks)

module _ (a : Aim) where
  -- an edit of the forest below the path's node leaves all faults right except that node's
  pub AddUpBut-edited : (edit : Forest NodeLabel → Forest NodeLabel) (hero : Bool) (d at : ℕ) (q : Evaluation) (f : Forest NodeLabel)
      (ks : List ℕ) (minus plus : ℕ) → at ≡ d + length ks → hero ≡ hero_moves a at
      → ((s : Forest NodeLabel) → FaultsAddUp a at (evaluation_at q f ks) s → FaultsAddUp a at (evaluation_at q f ks) (edit s))
      → faults_below hero (edit (below_at f ks)) + minus ≡ faults_below hero (below_at f ks) + plus
      → FaultsAddUp a d q f → FaultsAddUpExceptOnPath a d q (below_edited edit f ks) ks minus plus
  AddUpBut-edited edit hero d at q f [] minus plus e eh keeps s h =
      let same : at ≡ d = e ∙ (let z : d + length {A = ℕ} [] ≡ d = omega arith in z) in
      subst (λ n. FaultsAddUp a n q (edit f)) same (keeps f (subst (λ n. FaultsAddUp a n q f) (sym same) h))
  AddUpBut-edited edit hero d at q none (k ∷ ks) minus plus e eh keeps s h = tt
  AddUpBut-edited edit hero d at q (more m l b r) (zero ∷ []) minus plus e eh keeps s h =
      let same : at ≡ d + 1 = e ∙ (let z : d + length (zero ∷ []) ≡ d + 1 = omega arith in z) in
      let sum : faults_below (hero_moves a (d + 1)) (edit b) + minus ≡ faults_below (hero_moves a (d + 1)) b + plus =
      subst (λ g. faults_below g (edit b) + minus ≡ faults_below g b + plus) (eh ∙ ap (hero_moves a) same) s in (
        omega (arith, h.0, sum),
        subst (λ n. FaultsAddUp a n l.evaluated (edit b)) same (keeps b (subst (λ n. FaultsAddUp a n l.evaluated b) (sym same) h.1)),
        h.2,
      )
  AddUpBut-edited edit hero d at q (more m l b r) (zero ∷ j ∷ js) minus plus e eh keeps s h =
      let down : at ≡ d + 1 + length (j ∷ js) = e ∙ (let z : d + length (zero ∷ j ∷ js) ≡ d + 1 + length (j ∷ js) = omega arith in z) in (
        h.0 ∙ ap (λ s. own_fault a d q l.evaluated.value + s) (sym (below-edited (hero_moves a (d + 1)) edit b j js)),
        AddUpBut-edited edit hero (d + 1) at l.evaluated b (j ∷ js) minus plus down eh keeps s h.1,
        h.2,
      )
  AddUpBut-edited edit hero d at q (more m l b r) (suc k ∷ ks) minus plus e eh keeps s h =
      (h.0, h.1, AddUpBut-edited edit hero d at q r (k ∷ ks) minus plus e eh keeps s h.2)

-- Faults updated along a path of a whole tree.
use Rattle.std.proofs.Common.{◌≡◌, ℕ, ◌+◌, ◌≤◌, List, [], ◌∷◌, ◌++◌, Bool, true, false, Option}
use Rattle.std.proofs.Common.{Some, None, refl, sym, ap, ◌∙◌, arith, zero, suc, IsTrue}
use Rattle.study_tree.specs.Forest.{Forest, none, more, Twig, nodes_in}
use Rattle.study_tree.specs.Edits.{has_node, node_in, width}
use Rattle.study_tree.specs.Tree.{Plain, Spot, spot_at, twig_spot, has_spot}
use Rattle.study_values.specs.declared.value.Value.{Value}
use Rattle.study_marks.specs.declared.mark.MoveMark.{MoveMark}
use Rattle.study_marks.specs.declared.mark.MoveMark.TheVariants.{Only, Dual, Mistake, Idle, Reply}
use Rattle.study_marks.specs.Marks.{own_faults}
use Rattle.study_marks.specs.declared.node_label.NodeLabel.{NodeLabel}
use Rattle.study_marks.specs.declared.node_label.Evaluation.{Evaluation}
use Rattle.study_marks.specs.declared.mark_rules.Aim.{Aim}
use Rattle.study_marks.specs.Goals.{hero_moves}
use Rattle.study_marks.specs.BenchState.{own_fault, mark_by_label, all_faults, faults_below, FaultsAddUp}

-- the twig that a spot shows
pub twig-of : (o : Option (Twig NodeLabel)) (s : Spot NodeLabel) → twig_spot o ≡ Some s → (t : Twig NodeLabel) × (o ≡ Some t) × (t.label ≡ s.label)
twig-of None s e = let no : ⊥ = cc in absurd no
twig-of (Some t) s e = (
  t,
  refl,
  ap (λ (u : Spot NodeLabel). u.label)
      (let same : record { played = Some t.played; label = t.label; children = width t.below } ≡ s = cc in same),
)

-- a path leads to a node exactly if a node is shown
has-node : {L : Type 0} (f : Forest L) (k : ℕ) (ks : List ℕ) (t : Twig L) → node_in f k ks ≡ Some t → IsTrue (has_node f (k ∷ ks))
has-node none k ks t e = let no : ⊥ = cc in absurd no
has-node (more m l b r) zero [] t e = refl
has-node (more m l b r) zero (j ∷ js) t e = has-node b j js t e
has-node (more m l b r) (suc k) [] t e = has-node r k [] t e
has-node (more m l b r) (suc k) (j ∷ js) t e = has-node r k (j ∷ js) t e

-- No more faults than nodes.
pub below≤all : (hero : Bool) (f : Forest NodeLabel) → faults_below hero f ≤ all_faults f
below≤all hero none = omega arith
below≤all true (more m l b r) = omega arith
below≤all false (more m l b r) = omega arith

pub own≤1 : (a : Aim) (d : ℕ) (q : Evaluation) (v : Value) → own_fault a d q v ≤ 1
own≤1 a d q v = go (hero_moves a d) (mark_by_label a d q v)
  where
    go : (hero : Bool) (m : MoveMark) → own_faults hero (Some m) ≤ 1
    go true Only = omega arith
    go true (Dual k) = omega arith
    go true Mistake = omega arith
    go true Idle = omega arith
    go true Reply = omega arith
    go false m = omega arith

pub all≤nodes : (a : Aim) (d : ℕ) (q : Evaluation) (f : Forest NodeLabel) → FaultsAddUp a d q f → all_faults f ≤ nodes_in f
all≤nodes a d q none h = omega arith
all≤nodes a d q (more m l b r) h =
    omega (arith, h.0, own≤1 a d q l.evaluated.value, below≤all (hero_moves a (d + 1)) b, all≤nodes a (d + 1) l.evaluated b h.1, all≤nodes a d q r h.2)

-- a prefix of a path leads to a node, too
has_node-front : {L : Type 0} (f : Forest L) (front rest : List ℕ) → IsTrue (has_node f (front ++ rest)) → IsTrue (has_node f front)
has_node-front f [] rest h = refl
has_node-front none (k ∷ ks) rest h = h
has_node-front (more m l b r) (zero ∷ ks) rest h = has_node-front b ks rest h
has_node-front (more m l b r) (suc k ∷ ks) rest h = has_node-front r (k ∷ ks) rest h

pub has_spot-front : {L : Type 0} (t : Plain L) (front rest : List ℕ) → IsTrue (has_spot t (front ++ rest)) → IsTrue (has_spot t front)
has_spot-front t front rest h = has_node-front t.below front rest h

-- a node that exists is shown
twig-there : {L : Type 0} (f : Forest L) (k : ℕ) (ks : List ℕ) → IsTrue (has_node f (k ∷ ks)) → (t : Twig L) × (node_in f k ks ≡ Some t)
twig-there none k ks h = let no : ⊥ = cc in absurd no
twig-there (more m l b r) zero [] h = (record { played = m; label = l; below = b }, refl)
twig-there (more m l b r) zero (j ∷ js) h = twig-there b j js h
twig-there (more m l b r) (suc k) [] h = twig-there r k [] h
twig-there (more m l b r) (suc k) (j ∷ js) h = twig-there r k (j ∷ js) h

pub spot-there : {L : Type 0} (t : Plain L) (ks : List ℕ) → IsTrue (has_spot t ks) → (s : Spot L) × (spot_at t ks ≡ Some s)
spot-there t [] h = (record { played = None; label = t.label; children = width t.below }, refl)
spot-there t (k ∷ ks) h =
    let w = twig-there t.below k ks h in
    (record { played = Some w.0.played; label = w.0.label; children = width w.0.below }, ap twig_spot w.1)

pub there-spot : {L : Type 0} (t : Plain L) (ks : List ℕ) (s : Spot L) → spot_at t ks ≡ Some s → IsTrue (has_spot t ks)
there-spot t [] s e = refl
there-spot {L = L} t (k ∷ ks) s e = go (node_in t.below k ks) refl e
  where
    go : (o : Option (Twig L)) → node_in t.below k ks ≡ o → twig_spot o ≡ Some s → IsTrue (has_node t.below (k ∷ ks))
    go None h e = let no : ⊥ = cc in absurd no
    go (Some w) h e = has-node t.below k ks w h

pub no-spot : {L : Type 0} (t : Plain L) (ks : List ℕ) → IsTrue (has_spot t ks) → spot_at t ks ≡ None → ⊥
no-spot t ks h e = let s = spot-there t ks h in let no : Some s.0 ≡ None = sym s.1 ∙ e in cc

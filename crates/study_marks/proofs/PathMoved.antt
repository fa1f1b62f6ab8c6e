-- Faults changed along a path, in one walk.
use Rattle.std.proofs.Common.{◌≡◌, ℕ, ◌+◌, ◌<◌, ◌≤◌, List, [], ◌∷◌, Bool, true, false}
use Rattle.std.proofs.Common.{refl, sym, ap, ◌∙◌, arith, zero, suc, subst, IsTrue, Some, None}
use Rattle.std.specs.Prelude.{if◌then◌else◌, ◌-◌, ◌^◌, ◌&&◌, nat_le, not, Result, Ok, Err, IsOk, OnOk, MatchOption}
use Rattle.std.proofs.lemmas.Bool.{leb-true, leb-false, le-leb, lt-leb}
use Rattle.study_moves.specs.declared.moves.Move.{Move}
use Rattle.study_tree.specs.Forest.{Forest, none, more, nodes_in}
use Rattle.study_tree.specs.Edits.{has_node}
use Rattle.study_tree.specs.declared.fault.TreeFault.{TreeFault}
use Rattle.study_tree.specs.declared.fault.TreeFault.TheVariants.{NoSuchNode}
use Rattle.study_tree.specs.Tree.{Plain, has_spot, size_of, label_refusal}
use Rattle.study_tree.specs.Changes.{changed_along, with_changes, counted_by}
use Rattle.study_text.specs.Counts.{next_count}
use Rattle.study_marks.specs.declared.node_label.NodeLabel.{NodeLabel}
use Rattle.study_marks.specs.declared.node_label.Evaluation.{Evaluation}
use Rattle.study_marks.specs.declared.mark_rules.Aim.{Aim}
use Rattle.study_marks.specs.Queries.{counted_up_by}
use Rattle.study_marks.specs.Study.{mapped}
use Rattle.study_marks.specs.Goals.{hero_moves}
use Rattle.study_marks.specs.BenchState.{own_fault, all_faults, faults_below, FaultsAddUp, AllAddUp, evaluation_tree}
use Rattle.study_marks.specs.FaultSums.{FaultsAddUpExceptOnPath, FaultsAreOffBy, counts_all, counted_from_depth, faults_after_change, label_moved}
use Rattle.study_marks.proofs.PathRenewed.{below≤all, all≤nodes, own≤1}

-- a count, increased by one or by so many
counted_by-one : (k n : ℕ) → counted_by k (next_count n) ≡ counted_by (suc k) n
counted_by-one k n = omega arith

counted_by-times : (k n : ℕ) → n < 2 ^ 64 → counted_by k n ≡ counted_up_by k n
counted_by-times zero n h = omega arith
counted_by-times (suc k) n h =
    let few : next_count n < 2 ^ 64 = omega arith in
    sym (counted_by-one k n) ∙ counted_by-times k (next_count n) few

-- increased by at least one
pub counted_by-more : (k n : ℕ) → counted_by (k + 1) n ≡ counted_up_by (k + 1) n
counted_by-more k n =
    let few : next_count n < 2 ^ 64 = omega arith in
    let one : k + 1 ≡ suc k = omega arith in
    ap (λ j. counted_by j n) one ∙ sym (counted_by-one k n) ∙ counted_by-times k (next_count n) few ∙ ap (λ j. counted_up_by j n) (sym one)

pub counted_by-size : {L : Type 0} (t : Plain L) (n : ℕ) → counted_by (size_of t) n ≡ counted_up_by (size_of t) n
counted_by-size t n =
    let size : nodes_in t.below + 1 ≡ size_of t = omega arith in
    subst (λ k. counted_by k n ≡ counted_up_by k n) size (counted_by-more (nodes_in t.below) n)

-- the depth from which on a change is counted
from≥ : (a : Aim) (d : ℕ) (ks : List ℕ) → d ≤ counted_from_depth a d ks
from≥ a d [] = omega arith
from≥ a d (k ∷ ks) = go (nat_le (counted_from_depth a (d + 1) ks) (d + 1) && counts_all (hero_moves a d) k) (from≥ a (d + 1) ks)
  where
    go : (b : Bool) → d + 1 ≤ counted_from_depth a (d + 1) ks → d ≤ (if b then d else counted_from_depth a (d + 1) ks)
    go true h = omega arith
    go false h = omega (arith, h)

-- the same for the rest of the path, and whether the first node counts all its faults
record IsNext (a : Aim) (from d k : ℕ) (ks : List ℕ) : Type 0 where
  pub rest : counted_from_depth a (d + 1) ks ≡ d + 1 + (from - (d + 1))
  pub here : from ≤ d → counts_all (hero_moves a d) k ≡ true
  pub beyond : d < from → counts_all (hero_moves a d) k ≡ true → d + 1 < from

next-from : (a : Aim) (from d k : ℕ) (ks : List ℕ) → counted_from_depth a d (k ∷ ks) ≡ d + (from - d) → IsNext a from d k ks
next-from a from d k ks h =
    go (nat_le (counted_from_depth a (d + 1) ks) (d + 1)) (counts_all (hero_moves a d) k) refl refl h
  where
    x : ℕ
    x = counted_from_depth a (d + 1) ks

    go : (b c : Bool) → nat_le x (d + 1) ≡ b → counts_all (hero_moves a d) k ≡ c → (if b && c then d else x) ≡ d + (from - d) → IsNext a from d k ks
    go true true eb ec e = record {
      rest = omega (arith, e, leb-true x (d + 1) eb, from≥ a (d + 1) ks);
      here = λ _. ec;
      beyond = λ far _. absurd (omega (arith, e, far));
    }
    go true false eb ec e = record {
      rest = omega (arith, e, from≥ a (d + 1) ks);
      here = λ near. absurd (omega (arith, e, near, from≥ a (d + 1) ks));
      beyond = λ far yes. let no : false ≡ true = sym ec ∙ yes in absurd cc;
    }
    go false c eb ec e = record {
      rest = omega (arith, e, from≥ a (d + 1) ks);
      here = λ near. absurd (omega (arith, e, near, from≥ a (d + 1) ks));
      beyond = λ far _. omega (arith, e, far, leb-false x (d + 1) eb);
    }

module _ (a : Aim) (from minus plus : ℕ) where
  -- a number of faults that is changed if the change is counted at depth d
  record IsMoved (d n new : ℕ) : Type 0 where
    pub here : from ≤ d → new + minus ≡ n + plus
    pub beyond : d < from → new ≡ n

  abbrev move : ℕ → NodeLabel → NodeLabel
  move = label_moved from minus plus

  -- a label there
  moved-here : (d right : ℕ) (l : NodeLabel) → from ≤ d → l.faults + plus ≡ right + minus → right ≤ 4096
      → (move d l).faults ≡ right
  moved-here d right l near sum few =
      ap (λ (b : Bool). (if b then record { evaluated = l.evaluated; faults = faults_after_change minus plus l.faults } else l).faults) (le-leb from d near)
      ∙ omega (arith, sum, few)

  moved-beyond : (d : ℕ) (l : NodeLabel) → d < from → move d l ≡ l
  moved-beyond d l far =
      ap (λ (b : Bool). if b then record { evaluated = l.evaluated; faults = faults_after_change minus plus l.faults } else l) (lt-leb from d far)

  moved-evaluated : (d : ℕ) (l : NodeLabel) → (move d l).evaluated ≡ l.evaluated
  moved-evaluated d l = go (nat_le from d)
    where
      go : (b : Bool) → (if b then record { evaluated = l.evaluated; faults = faults_after_change minus plus l.faults } else l).evaluated ≡ l.evaluated
      go true = refl
      go false = refl

  nodes-moved : (d : ℕ) (f : Forest NodeLabel) (ks : List ℕ) → nodes_in (changed_along move d f ks) ≡ nodes_in f
  nodes-moved d f [] = refl
  nodes-moved d none (k ∷ ks) = refl
  nodes-moved d (more m l b r) (zero ∷ ks) = omega (arith, nodes-moved (d + 1) b ks)
  nodes-moved d (more m l b r) (suc k ∷ ks) = omega (arith, nodes-moved d r (k ∷ ks))

  pub evaluated-moved : (d : ℕ) (f : Forest NodeLabel) (ks : List ℕ)
      → mapped (λ (l : NodeLabel). l.evaluated) (changed_along move d f ks) ≡ mapped (λ l. l.evaluated) f
  evaluated-moved d f [] = refl
  evaluated-moved d none (k ∷ ks) = refl
  evaluated-moved d (more m l b r) (zero ∷ ks) =
      ap (λ x. more m x (mapped (λ (y : NodeLabel). y.evaluated) (changed_along move (d + 1) b ks)) (mapped (λ (y : NodeLabel). y.evaluated) r))
      (moved-evaluated d l)
      ∙ ap (λ x. more m l.evaluated x (mapped (λ (y : NodeLabel). y.evaluated) r)) (evaluated-moved (d + 1) b ks)
  evaluated-moved d (more m l b r) (suc k ∷ ks) =
      ap (more m l.evaluated (mapped (λ (y : NodeLabel). y.evaluated) b)) (evaluated-moved d r (k ∷ ks))

  -- siblings at depth d + 1, of which one and the nodes on the path below it are changed
  record AreMoved (d : ℕ) (q : Evaluation) (f new : Forest NodeLabel) : Type 0 where
    pub adds : FaultsAddUp a d q new
    pub all : IsMoved (d + 1) (all_faults f) (all_faults new)

  adds-evaluated : (d : ℕ) (q p : Evaluation) (f : Forest NodeLabel) → q ≡ p → FaultsAddUp a d q f → FaultsAddUp a d p f
  adds-evaluated d q p f e h = subst (λ (x : Evaluation). FaultsAddUp a d x f) e h

  -- one node and the forest below it
  moved-node : (d right : ℕ) (q : Evaluation) (m : Move) (l : NodeLabel) (b new r : Forest NodeLabel)
      → FaultsAddUp a (d + 1) l.evaluated new → FaultsAddUp a d q r → nodes_in new ≤ 4095 → right ≤ 1
      → right ≡ own_fault a d q l.evaluated.value
      → ((from ≤ d + 1 → l.faults + plus ≡ right + faults_below (hero_moves a (d + 1)) new + minus))
      → (d + 1 < from → l.faults ≡ right + faults_below (hero_moves a (d + 1)) new)
      → AreMoved d q (more m l b r) (more m (move (d + 1) l) new r)
  moved-node d right q m l b new r under later few one is_own near far =
      record {
        adds = (
          faults ∙ ap (λ x. x + faults_below (hero_moves a (d + 1)) new) (is_own
              ∙ ap (λ (t : Evaluation). own_fault a d q t.value) (sym (moved-evaluated (d + 1) l))),
          adds-evaluated (d + 1) l.evaluated (move (d + 1) l).evaluated new (sym (moved-evaluated (d + 1) l)) under,
          later,
        );
        all = record {
          here = λ h. omega (arith, faults, near h);
          beyond = λ h. omega (arith, faults, far h);
        };
      }
    where
      small : right + faults_below (hero_moves a (d + 1)) new ≤ 4096
      small = omega (arith, one, few, below≤all (hero_moves a (d + 1)) new, all≤nodes a (d + 1) l.evaluated new under)

      go : (b : Bool) → nat_le from (d + 1) ≡ b → (move (d + 1) l).faults ≡ right + faults_below (hero_moves a (d + 1)) new
      go true e = moved-here (d + 1) (right + faults_below (hero_moves a (d + 1)) new) l (leb-true from (d + 1) e) (near (leb-true from (d + 1) e)) small
      go false e = ap (λ (x : NodeLabel). x.faults) (moved-beyond (d + 1) l (leb-false from (d + 1) e)) ∙ far (leb-false from (d + 1) e)

      faults : (move (d + 1) l).faults ≡ right + faults_below (hero_moves a (d + 1)) new
      faults = go (nat_le from (d + 1)) refl

  -- the faults that the nodes count for their parent
  below-moved : (hero : Bool) (d : ℕ) (f : Forest NodeLabel) (k : ℕ) (ks : List ℕ) → IsTrue (has_node f (k ∷ ks))
      → (from ≤ d → counts_all hero k ≡ true) → (d < from → counts_all hero k ≡ true → d + 1 < from)
      → IsMoved (d + 1) (all_faults f) (all_faults (changed_along move (d + 1) f (k ∷ ks)))
      → IsMoved d (faults_below hero f) (faults_below hero (changed_along move (d + 1) f (k ∷ ks)))
  below-moved hero d none k ks found here beyond h = let no : ⊥ = cc in absurd no
  below-moved true d (more m l b r) zero ks found here beyond h =
      record { here = λ near. omega (arith, h.here (omega (arith, near))); beyond = λ far. omega (arith, h.beyond (beyond far refl)) }
  below-moved false d (more m l b r) zero ks found here beyond h =
      record { here = λ near. omega (arith, h.here (omega (arith, near))); beyond = λ far. omega (arith, h.beyond (beyond far refl)) }
  below-moved true d (more m l b r) (suc k) ks found here beyond h =
      record { here = λ near. let no : false ≡ true = here near in absurd cc; beyond = λ far. refl }
  below-moved false d (more m l b r) (suc k) ks found here beyond h =
      record { here = λ near. omega (arith, h.here (omega (arith, near))); beyond = λ far. omega (arith, h.beyond (beyond far refl)) }

  record IsDone (d : ℕ) (q : Evaluation) (f new : Forest NodeLabel) : Type 0 where
    pub adds : FaultsAddUp a d q new
    pub below : IsMoved d (faults_below (hero_moves a d) f) (faults_below (hero_moves a d) new)

  are-moved : (d : ℕ) (q : Evaluation) (f : Forest NodeLabel) (k : ℕ) (ks : List ℕ) → IsTrue (has_node f (k ∷ ks))
      → FaultsAddUpExceptOnPath a d q f (k ∷ ks) minus plus → nodes_in f ≤ 4096
      → counted_from_depth a (d + 1) ks ≡ d + 1 + (from - (d + 1))
      → AreMoved d q f (changed_along move (d + 1) f (k ∷ ks))
  are-moved d q none k ks found h few e = let no : ⊥ = cc in absurd no
  are-moved d q (more m l b r) zero [] found h few e =
      moved-node d (own_fault a d q l.evaluated.value) q m l b b r h.1 h.2 (omega (arith, few)) (own≤1 a d q l.evaluated.value) refl
      (λ near. omega (arith, h.0)) (λ far. absurd (omega (arith, e, far)))
  are-moved d q (more m l b r) zero (j ∷ js) found h few e =
      let n = next-from a from (d + 1) j js e in
      let i = are-moved (d + 1) l.evaluated b j js found h.1 (omega (arith, few)) n.rest in
      let below = below-moved (hero_moves a (d + 1)) (d + 1) b j js found n.here n.beyond i.all in
      moved-node d (own_fault a d q l.evaluated.value) q m l b (changed_along move (d + 1 + 1) b (j ∷ js)) r i.adds h.2
      (omega (arith, few, nodes-moved (d + 1 + 1) b (j ∷ js))) (own≤1 a d q l.evaluated.value) refl
      (λ near. omega (arith, h.0, below.here near)) (λ far. omega (arith, h.0, below.beyond far))
  are-moved d q (more m l b r) (suc k) ks found h few e =
      let i = are-moved d q r k ks found h.2 (omega (arith, few)) e in
      record {
        adds = (h.0, h.1, i.adds);
        all = record { here = λ near. omega (arith, i.all.here near); beyond = λ far. omega (arith, i.all.beyond far) };
      }

  is-done : (d : ℕ) (q : Evaluation) (f : Forest NodeLabel) (k : ℕ) (ks : List ℕ) → IsTrue (has_node f (k ∷ ks))
      → FaultsAddUpExceptOnPath a d q f (k ∷ ks) minus plus → nodes_in f ≤ 4096 → counted_from_depth a d (k ∷ ks) ≡ d + (from - d)
      → IsDone d q f (changed_along move (d + 1) f (k ∷ ks))
  is-done d q f k ks found h few e =
      let n = next-from a from d k ks e in
      let i = are-moved d q f k ks found h few n.rest in
      record { adds = i.adds; below = below-moved (hero_moves a d) d f k ks found n.here n.beyond i.all }

  -- the whole tree
  pub all-moved : (t : Plain NodeLabel) (ks : List ℕ) → IsTrue (has_spot t ks) → FaultsAreOffBy a t ks minus plus → size_of t ≤ 4096
      → from ≡ counted_from_depth a 0 ks → AllAddUp a (with_changes (label_moved from minus plus) t ks)
  all-moved t [] found off few e = (
    moved-here 0 (faults_below (hero_moves a 0) t.below) t.label (omega (arith, e)) off.0
        (omega (arith, few, below≤all (hero_moves a 0) t.below, all≤nodes a 0 t.label.evaluated t.below off.1)),
    adds-evaluated 0 t.label.evaluated (move 0 t.label).evaluated t.below (sym (moved-evaluated 0 t.label)) off.1,
  )
  all-moved t (k ∷ ks) found off few e = (
    go (nat_le from 0) refl,
    adds-evaluated 0 t.label.evaluated (move 0 t.label).evaluated new (sym (moved-evaluated 0 t.label)) i.adds,
  )
    where
      new : Forest NodeLabel
      new = changed_along move (0 + 1) t.below (k ∷ ks)

      i : IsDone 0 t.label.evaluated t.below new
      i = is-done 0 t.label.evaluated t.below k ks found off.1 (omega (arith, few)) (omega (arith, e))

      go : (b : Bool) → nat_le from 0 ≡ b → (move 0 t.label).faults ≡ faults_below (hero_moves a 0) new
      go true en =
          moved-here 0 (faults_below (hero_moves a 0) new) t.label (leb-true from 0 en)
          (omega (arith, off.0, i.below.here (leb-true from 0 en)))
          (omega (arith, few, below≤all (hero_moves a 0) new, all≤nodes a 0 t.label.evaluated new i.adds, nodes-moved (0 + 1) t.below (k ∷ ks)))
      go false en =
          ap (λ (x : NodeLabel). x.faults) (moved-beyond 0 t.label (leb-false from 0 en))
          ∙ omega (arith, off.0, i.below.beyond (leb-false from 0 en))

  pub all-evaluated : (t : Plain NodeLabel) (ks : List ℕ) → evaluation_tree (with_changes (label_moved from minus plus) t ks) ≡ evaluation_tree t
  all-evaluated t ks =
      ap (λ x. record { label = x; below = mapped (λ (l : NodeLabel). l.evaluated) (changed_along move 1 t.below ks) }) (moved-evaluated 0 t.label)
      ∙ ap (λ x. record { label = t.label.evaluated; below = x }) (evaluated-moved 1 t.below ks)

-- the change at a node that exists
pub changed-there : (t : Plain NodeLabel) (ks : List ℕ) (r : Result (Unit {0}) TreeFault) (P : Type 0)
    → IsTrue (has_spot t ks) → MatchOption (label_refusal t ks) (IsOk r) (λ f. r ≡ Err f) → OnOk r P → P
changed-there t ks r P found h k = go r (subst (λ b. MatchOption (if not b then Some NoSuchNode else None) (IsOk r) (λ f. r ≡ Err f)) found h) k
  where
    go : (r : Result (Unit {0}) TreeFault) → IsOk r → OnOk r P → P
    go (Ok u) h k = k
    go (Err f) h k = let no : ⊥ = cc in absurd no

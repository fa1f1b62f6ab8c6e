-- A node of a study has at most 62 children.
use Rattle.std.proofs.Common.{◌≡◌, ℕ, zero, suc, ◌<◌, ◌≤◌, Bool, true, false, List, [], ◌∷◌, length, Option, Some, None, refl, sym, ap, subst, ◌∙◌}
use Rattle.std.proofs.Common.{inl, inr, arith}
use Rattle.std.specs.Prelude.{not, nat_le, if◌then◌else◌}
use Rattle.std.specs.Cmp.{IsEquivalence}
use Rattle.std.specs.List.{AllByRecursion, IsDistinct}
use Rattle.std.specs.Set.{is_member}
use Rattle.std.specs.Bool.{Decides}
use Rattle.std.proofs.lemmas.Bool.{false≢true, or_cases, false_from_ne_true, leb-false}
use Rattle.std.proofs.lemmas.Map.Keys.{IsDistinct-cons}
use Rattle.std.proofs.lemmas.Map.Made.{length-le_from_is_member, is_member-Decides}
use Rattle.study_board.specs.Position.{Position, IsValid}
use Rattle.study_moves.specs.declared.moves.Move.{Move}
use Rattle.study_moves.specs.Rules.{is_legal, after}
use Rattle.study_moves.specs.LegalList.{legal_list}
use Rattle.study_moves.proofs.LegalLists.{legal_list_exact}
use Rattle.study_moves.proofs.AfterMove.{IsValid-after}
use Rattle.study_tree.specs.Forest.{Forest, none, more}
use Rattle.study_tree.specs.Edits.{has_node, width}
use Rattle.study_tree.specs.Tree.{has_spot, size_of}
use Rattle.study_marks.specs.declared.refusal.Refusal.TheVariants as refusal
use Rattle.study_marks.specs.Study.{same_move, position_at, place_at, IsPlayable, AreOthers, AreDistinct}
use Rattle.study_marks.specs.Edits.{PlainStudy, with_insertion, there, insert_refusal}
use Rattle.study_marks.proofs.StudyEdits.{same_move-refl, IsPlayable-add_last, AreDistinct-add_last}
use Rattle.study_marks.proofs.DualCounts.{same_move-one}
use Rattle.study_import.proofs.FewLegal.{few_legal}
use Rattle.study_import.proofs.Spelling.{AllBelow}

abbrev Plain : Type 0
Plain = Forest (Unit {0})

turned : (m n : Move) → same_move m n ≡ same_move n m
turned m n = go (same_move m n) (same_move n m) refl refl
  where
    go : (b c : Bool) → same_move m n ≡ b → same_move n m ≡ c → same_move m n ≡ same_move n m
    go true c e f = let one : m ≡ n = same_move-one m n e in ap (λ x. same_move x n) one ∙ sym (ap (λ x. same_move n x) one)
    go false true e f = let one : n ≡ m = same_move-one n m f in sym (ap (λ x. same_move x n) one) ∙ ap (λ x. same_move n x) one
    go false false e f = e ∙ sym f

pub laws : IsEquivalence same_move
laws = record {
  refl = same_move-refl;
  symm = turned;
  congr = λ x y z e. ap (λ w. same_move w z) (same_move-one x y e);
}

pub decides : (m n : Move) → Decides (same_move m n) (m ≡ n)
decides m n = (same_move-one m n, λ e. subst (λ (x : Move). same_move m x ≡ true) e (same_move-refl m))

-- the moves of nodes side by side
unfoldable pub moves_in : Plain → List Move
moves_in none = []
moves_in (more m l b r) = m ∷ moves_in r

pub width_is : (f : Plain) → width f ≡ length (moves_in f)
unfolding moves_in
width_is none = refl
width_is (more m l b r) = omega (arith, width_is r)

others : (m : Move) (f : Plain) → AreOthers m f → AllByRecursion (λ n. same_move m n ≡ false) (moves_in f)
unfolding moves_in
others m none h = tt
others m (more n l b r) h = (false_from_ne_true (same_move m n) (λ e. h.0 (same_move-one m n e)), others m r h.1)

pub distinct : (f : Plain) → AreDistinct f → IsDistinct same_move (moves_in f)
unfolding moves_in IsDistinct
distinct none h = tt
distinct (more m l b r) h = IsDistinct-cons same_move m (moves_in r) (others m r h.0) (distinct r h.2)

member_legal : (p : Position) (f : Plain) (q : Move) → IsPlayable p f → is_member same_move (moves_in f) q ≡ true → is_legal p q ≡ true
unfolding moves_in
member_legal p none q h e = absurd (false≢true e)
member_legal p (more m l b r) q h e = elim (or_cases (same_move q m) (is_member same_move (moves_in r) q) e) [
  | inl here ↦ subst (λ (x : Move). is_legal p x ≡ true) (sym (same_move-one q m here)) h.0
  | inr later ↦ member_legal p r q h.2 later
]

legal_member : (p : Position) (q : Move) → IsValid p → is_legal p q ≡ true → is_member same_move (legal_list p) q ≡ true
legal_member p q valid e = (is_member-Decides decides (legal_list p) q).1 ((legal_list_exact p q valid).1 e)

pub width_few : (p : Position) (f : Plain) → IsValid p → IsPlayable p f → AreDistinct f → width f ≤ 62
width_few p f valid h d =
    omega (
      arith,
      width_is f,
      few_legal p valid,
      length-le_from_is_member laws (moves_in f) (legal_list p) (distinct f d) (λ q e. legal_member p q valid (member_legal p f q h e)),
    )

node_below : (f : Plain) (k : ℕ) (ks : List ℕ) → has_node f (k ∷ ks) ≡ true → k < width f
node_below none k ks e = absurd (false≢true e)
node_below (more m l b r) zero ks e = omega arith
node_below (more m l b r) (suc k) ks e = omega (arith, node_below r k ks e)

-- each place of a path that leads to a node
pub places_few : (p : Position) (f : Plain) (ks : List ℕ) → IsValid p → IsPlayable p f → AreDistinct f → has_node f ks ≡ true → AllBelow 62 ks
places_few p f [] valid h d e = tt
places_few p none (k ∷ ks) valid h d e = absurd (false≢true e)
places_few p (more m l b r) (zero ∷ ks) valid h d e = (omega arith, places_few (after p m) b ks (IsValid-after p m valid h.0) h.1 d.1 e)
places_few p (more m l b r) (suc k ∷ ks) valid h d e =
    (omega (arith, node_below (more m l b r) (suc k) ks e, width_few p (more m l b r) valid h d), (places_few p r (k ∷ ks) valid h.2 d.2 e).1)

-- ---- the effect of an accepted insertion

pub record IsOpen (s : PlainStudy) (at : List ℕ) (m : Move) : Type 0 where
  pub found : has_spot s.tree at ≡ true
  pub legal : is_legal (position_at s at) m ≡ true
  pub place : place_at s.tree.below at m ≡ None
  pub depth : length at < 256

module _ (A : Type 0) where
  open_by : (here legal : Bool) (place : Option ℕ) (deep full : Bool)
      → (if not here then Some refusal.NoSuchNode else (if not legal then Some refusal.IllegalMove
      else (there {A = A} place (if deep then Some refusal.TooDeep else (if full then Some refusal.TreeFull else None))))) ≡ None
      → (here ≡ true) × (legal ≡ true) × (place ≡ None) × (deep ≡ false)
  open_by false legal place deep full e = absurd cc
  open_by true false place deep full e = absurd cc
  open_by true true (Some k) deep full e = absurd cc
  open_by true true None true full e = absurd cc
  open_by true true None false full e = (refl, refl, refl, refl)

  pub is_open : (s : PlainStudy) (at : List ℕ) (m : Move) → insert_refusal {A = A} s at m ≡ None → IsOpen s at m
  is_open s at m e =
      let o = open_by (has_spot s.tree at) (is_legal (position_at s at) m) (place_at s.tree.below at m) (nat_le 256 (length at))
      (nat_le 4096 (size_of s.tree)) e in
      record { found = o.0; legal = o.1; place = o.2; depth = leb-false 256 (length at) o.3 }

-- a study whose nodes have few children
pub record IsNarrow (s : PlainStudy) : Type 0 where
  pub valid : IsValid s.start.position
  pub playable : IsPlayable s.start.position s.tree.below
  pub distinct : AreDistinct s.tree.below

pub narrow_inserted : (s : PlainStudy) (at : List ℕ) (m : Move) → IsNarrow s → IsOpen s at m → IsNarrow (with_insertion s at m)
narrow_inserted s at m n o = record {
  valid = n.valid;
  playable = IsPlayable-add_last s.start.position s.tree.below at m tt n.playable o.legal;
  distinct = AreDistinct-add_last s.tree.below at m tt n.distinct o.place;
}

pub open_few : (s : PlainStudy) (at : List ℕ) (m : Move) → IsNarrow s → IsOpen s at m → AllBelow 62 at
open_few s at m n o = places_few s.start.position s.tree.below at n.valid n.playable n.distinct o.found

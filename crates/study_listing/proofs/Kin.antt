-- A position with one man on another square: its class, and whether such a position has the same key.
use Rattle.std.proofs.Common.{◌≡◌, ◌↔◌, ◌⊎◌, ◌==◌, ℕ, ◌+◌, ◌<◌, Bool, true, false, List, [], ◌∷◌, Option, Some, None, cond, refl, sym, ap, subst, ◌∙◌, arith, inl, inr}
use Rattle.std.specs.Prelude.{Result, Ok, Err, IfOk, IfNone}
use Rattle.std.proofs.lemmas.Bool.{false≢true, cases_lt}
use Rattle.study_board.specs.declared.men.Man.{Man}
use Rattle.study_board.specs.declared.men.Side.{Side}
use Rattle.study_board.specs.declared.men.Side.TheVariants.{White, Black}
use Rattle.study_board.specs.Men.{moved_if}
use Rattle.study_board.specs.Position.{Position, in_order, first_fault}
use Rattle.study_board.proofs.MenInOrder.{IsPermutation-in_order}
use Rattle.study_material.proofs.KindCounts.{lists-IsPermutation}
use Rattle.study_material.specs.Lists.{Lists, lists, kinds_of, ordered_lists}
use Rattle.study_material.specs.Class.{IsOf}
use Rattle.study_moves.specs.declared.moves.Move.{Move}
use Rattle.study_values.specs.Index.{index_of}
use Rattle.study_search.specs.declared.only_moves.Outcome.{Outcome}
use Rattle.study_search.specs.Faults.{NeedsNoMore}
use Rattle.study_search.specs.OnlyMoves.{IsKey}
use Rattle.study_listing.specs.declared.filters.Selection.{Selection}
use Rattle.study_listing.specs.Families.{moved_men, with_man_moved, IsMovedTo, SomeMoved}
use Rattle.study_index.specs.Computed.{position_numbered}
use Rattle.study_listing.specs.Lists.{IsListed, IsListedAt, IsFirstOfFamily, IsEarlierKin, HasEarlierKin}
use Rattle.study_listing.proofs.OneList.{none-some, same-some}

moved-kind : (from to : ℕ) (m : Man) → (moved_if from to m).kind ≡ m.kind
moved-kind from to m = elim (m.at == from) as (λ b. (cond b (record m { at = to }) m).kind ≡ m.kind) [ true ↦ refl | false ↦ refl ]

moved-side : (from to : ℕ) (m : Man) → (moved_if from to m).side ≡ m.side
moved-side from to m = elim (m.at == from) as (λ b. (cond b (record m { at = to }) m).side ≡ m.side) [ true ↦ refl | false ↦ refl ]

moved-kinds : (side : Side) (from to : ℕ) (men : List Man) → kinds_of side (moved_men from to men) ≡ kinds_of side men
moved-kinds side from to [] = refl
moved-kinds side from to (m ∷ ms) = rw (moved-kind from to m, moved-side from to m, moved-kinds side from to ms) refl

moved-lists : (p : Position) (from to : ℕ) → lists (with_man_moved p from to).men ≡ lists p.men
moved-lists p from to =
    lists-IsPermutation (moved_men from to p.men) (in_order (moved_men from to p.men)) (IsPermutation-in_order (moved_men from to p.men))
    ∙ rw (moved-kinds White from to p.men, moved-kinds Black from to p.men) refl

-- it is of the same class
pub moved-needs : (p q : Position) (from to : ℕ) → q ≡ with_man_moved p from to → NeedsNoMore p q
moved-needs p q from to e c (d, of, n) =
    let here : IsOf d (with_man_moved p from to) = subst (λ (x : Position). IsOf d x) e of in
    (d, here ∙ ap (λ (l : Lists). ordered_lists l) (moved-lists p from to), n)

module _ (P : Position → Type 0) (p : Position) where
  -- the position with the man moved is q
  pub moved-is : {E : Type 0} (q : Position) (from to : ℕ) (r : Result Bool E) → first_fault (moved_men from to p.men) p.to_move p.passed ≡ None
      → q ≡ with_man_moved p from to → IfOk r (λ b. (b ≡ true) ↔ P q) → IfOk r (λ b. (b ≡ true) ↔ IsMovedTo P p from to)
  moved-is q from to (Ok b) sound e h = ((λ t. (sound, subst P e (h.0 t))), (λ k. h.1 (subst P (sym e) k.1)))
  moved-is q from to (Err x) sound e h = tt

  pub among-here : (m : Man) (ms men : List Man) → men ≡ m ∷ ms → (to : ℕ) × (to < 64) × IsMovedTo P p m.at to → (true ≡ true) ↔ SomeMoved P p men
  among-here m ms men e h = ((λ t. subst (λ (l : List Man). SomeMoved P p l) (sym e) (inl h)), (λ k. refl))

  pub among-on : {E : Type 0} (m : Man) (ms men : List Man) (b : Bool) (r : Result Bool E) → men ≡ m ∷ ms
      → ((b ≡ true) ↔ ((to : ℕ) × (to < 64) × IsMovedTo P p m.at to)) → b ≡ false → IfOk r (λ c. (c ≡ true) ↔ SomeMoved P p ms)
      → IfOk r (λ c. (c ≡ true) ↔ SomeMoved P p men)
  among-on m ms men b (Ok c) e one none h = subst (λ (l : List Man). (c ≡ true) ↔ SomeMoved P p l) (sym e) (
    (λ t. inr (h.0 t)),
    (λ k. elim k [ inl x ↦ absurd (false≢true (sym none ∙ one.1 x)) | inr y ↦ h.1 y ]),
  )
  among-on m ms men b (Err x) e one none h = tt

-- of the numbers below an end
module _ (Q : ℕ → Type 0) where
  pub below-none : (end : ℕ) → end ≡ 0 → (false ≡ true) ↔ ((to : ℕ) × (to < end) × Q to)
  below-none end e = ((λ t. absurd (false≢true t)), (λ k. (let less = k.1 in absurd (omega (arith, less, e)))))

  pub below-here : (last end : ℕ) → last < end → Q last → (true ≡ true) ↔ ((to : ℕ) × (to < end) × Q to)
  below-here last end less q = ((λ t. (last, less, q)), (λ k. refl))

  pub below-on : {E : Type 0} (last end : ℕ) (b : Bool) (r : Result Bool E) → end ≡ last + 1 → ((b ≡ true) ↔ Q last) → b ≡ false
      → IfOk r (λ c. (c ≡ true) ↔ ((to : ℕ) × (to < last) × Q to)) → IfOk r (λ c. (c ≡ true) ↔ ((to : ℕ) × (to < end) × Q to))
  below-on last end b (Ok c) e one none h = (
    (λ t. let k = h.0 t in let less = k.1 in (k.0, omega (arith, less, e), k.2)),
    (λ k. elim (cases_lt k.0 last) [
      | inl l ↦ h.1 (k.0, l, k.2)
      | inr g ↦
          let less = k.1 in
          let same : k.0 ≡ last = omega (arith, g, less, e) in
          absurd (false≢true (sym none ∙ one.1 (subst Q same k.2)))
    ]),
  )
  below-on last end b (Err x) e one none h = tt

-- ---- the key

pub earlier-if : {E : Type 0} (s : Selection) (n : ℕ) (o : Outcome) (m : Move) (q : Position) (r : Result Bool E) → index_of q < n → IsKey o q m
    → IfOk r (λ b. (b ≡ true) ↔ IsListed s q) → IfOk r (λ b. (b ≡ true) ↔ IsEarlierKin s n o m q)
earlier-if s n o m q (Ok b) less key h = ((λ t. (less, key, h.0 t)), (λ k. h.1 k.2))
earlier-if s n o m q (Err x) less key h = tt

module _ (s : Selection) (o : Outcome) (p : Position) (key : Option Move) (one : (m : Move) → (key ≡ Some m) ↔ IsKey o p m) where
  pub no-kin : key ≡ None → (false ≡ true) ↔ HasEarlierKin s o p
  no-kin e = ((λ t. absurd (false≢true t)), (λ k. absurd (none-some k.0 (sym e ∙ (one k.0).1 k.1))))

  pub kin-by-key : {E : Type 0} (m : Move) (men : List Man) (r : Result Bool E) → key ≡ Some m → men ≡ p.men
      → IfOk r (λ b. (b ≡ true) ↔ SomeMoved (IsEarlierKin s (index_of p) o m) p men) → IfOk r (λ b. (b ≡ true) ↔ HasEarlierKin s o p)
  kin-by-key m men (Ok b) e f h = (
    (λ t. (m, (one m).0 e, subst (λ (l : List Man). SomeMoved (IsEarlierKin s (index_of p) o m) p l) f (h.0 t))),
    (λ k.
        let same : k.0 ≡ m = sym (same-some m k.0 (sym e ∙ (one k.0).1 k.1)) in
        let moved = subst (λ (x : Move). SomeMoved (IsEarlierKin s (index_of p) o x) p p.men) same k.2 in
        h.1 (subst (λ (l : List Man). SomeMoved (IsEarlierKin s (index_of p) o m) p l) (sym f) moved)),
  )
  kin-by-key m men (Err x) e f h = tt

-- either of two, the first of which is not so
pub either-so : {E : Type 0} (A B : Type 0) (b : Bool) (r : Result Bool E) → ((b ≡ true) ↔ A) → b ≡ false → IfOk r (λ c. (c ≡ true) ↔ B)
    → IfOk r (λ c. (c ≡ true) ↔ (A ⊎ B))
either-so A B b (Ok c) h none k = (
  (λ t. inr (k.0 t)),
  (λ e. elim e [ inl x ↦ absurd (false≢true (sym none ∙ h.1 x)) | inr y ↦ k.1 y ]),
)
either-so A B b (Err x) h none k = tt

-- the number reads as a position that is not listed
pub not-at : {E : Type 0} (s : Selection) (n : ℕ) (p : Position) (r : Result (Option Position) E) → position_numbered s.search.class n ≡ Some p
    → IfOk r (λ at. IfNone at (¬ (IsListed s p × IsFirstOfFamily s p))) → IfOk r (λ at. IfNone at (¬ (IsListedAt s n)))
not-at s n p (Ok None) e h = λ x. h (subst (λ (q : Position). IsListed s q × IsFirstOfFamily s q) (same-some x.0 p (sym x.1 ∙ e)) (x.2, x.3))
not-at s n p (Ok (Some q)) e h = tt
not-at s n p (Err x) e h = tt

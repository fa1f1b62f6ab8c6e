-- The changes of cells within a level, step by step.
use Rattle.std.proofs.Common.{◌≡◌, ◌≢◌, ℕ, zero, suc, [], ◌∷◌, ◌+◌, ◌<◌, ◌≤◌, ◌⊎◌, inl, inr, sym}
use Rattle.std.proofs.Common.{◌∙◌, subst, arith, below_more, List, slice_index, slice_set, length, get_or, take, Contains}
use Rattle.std.proofs.Common.{Option, Bool, true, false, not, IsTrue, ◌==◌, refl, ap}
use Rattle.study_values.specs.declared.value.Value.{Value}
use Rattle.study_values.specs.declared.value.Value.TheVariants.{Win}
use Rattle.std.proofs.lemmas.Bool.{eqb-true}
use Rattle.std.proofs.lemmas.List.{take_more, get_or-set_same, get_or-set_other}
use Rattle.std.proofs.lemmas.List.Elements.{Contains-push_cases}
use Rattle.study_table.specs.Forced.{LeadsBy}
use Rattle.study_levels.specs.Propagation.{IsWonCell, TellsWins, IsLostBy, AreAdded, AreDropped, AreLowered, IsSetBy}

pub not_won-zero : (k c : ℕ) → c ≡ 0 → IsWonCell k c → ⊥
not_won-zero k c e w = w.1 e

pub not_won-next : (k c : ℕ) → c ≡ k + 2 → IsWonCell k c → ⊥
not_won-next k c e w = omega (arith, e, w.2)

module _ (k : ℕ) where
  pub lowered-then : (Why : ℕ → Type 0) (a b c : List ℕ) → AreLowered Why k a b → AreLowered Why k b c → AreLowered Why k a c
  lowered-then Why a b c f g i = elim (g i) [
    | inl same ↦ elim (f i) [ inl e ↦ inl (same ∙ e) | inr x ↦ inr (x.0, same ∙ x.1, x.2) ]
    | inr y ↦ elim (f i) [
      | inl e ↦ inr (y.0, y.1, subst (λ (n : ℕ). (n ≡ 0) ⊎ (k + 2 < n)) e y.2)
      | inr x ↦ absurd (elim y.2 [ inl z ↦ omega (arith, x.1, z) | inr z ↦ omega (arith, x.1, z) ])
    ]
  ]

  -- a cell of k + 1 was one before, and stays
  pub lowered-back : (Why : ℕ → Type 0) (a b : List ℕ) → AreLowered Why k a b → (i : ℕ) → slice_index b i ≡ k + 1 → slice_index a i ≡ k + 1
  lowered-back Why a b f i h = elim (f i) [ inl e ↦ sym e ∙ h | inr x ↦ absurd (omega (arith, x.1, h)) ]

  pub lowered-same : (Why : ℕ → Type 0) (a b : List ℕ) → AreLowered Why k a b → (i : ℕ) → slice_index a i ≡ k + 1 → slice_index b i ≡ k + 1
  lowered-same Why a b f i h = elim (f i) [
    | inl e ↦ e ∙ h
    | inr x ↦ absurd (elim x.2 [ inl z ↦ omega (arith, h, z) | inr z ↦ omega (arith, h, z) ])
  ]

  pub lowered-set : (Why : ℕ → Type 0) (a b : List ℕ) → AreLowered Why k a b → (i : ℕ) → IsSetBy (k + 2) a i → IsSetBy (k + 2) b i
  lowered-set Why a b f i h = elim (f i) [
    | inl e ↦ ((λ z. h.0 (sym e ∙ z)), (let l = h.1 in omega (arith, l, e)))
    | inr x ↦ absurd (elim x.2 [ inl z ↦ h.0 z | inr z ↦ (let l = h.1 in omega (arith, l, z)) ])
  ]

  pub added-then : (Why : ℕ → Type 0) (a b c : List ℕ) → AreAdded Why k a b → AreAdded Why k b c → AreAdded Why k a c
  added-then Why a b c f g i = elim (g i) [
    | inl same ↦ elim (f i) [ inl e ↦ inl (same ∙ e) | inr x ↦ inr (x.0, same ∙ x.1, x.2) ]
    | inr y ↦ elim (f i) [ inl e ↦ inr (y.0, y.1, sym e ∙ y.2) | inr x ↦ absurd (omega (arith, y.2, x.1)) ]
  ]

  pub added-kept : (Why : ℕ → Type 0) (a b : List ℕ) → AreAdded Why k a b → (i : ℕ) → slice_index a i ≢ 0 → slice_index b i ≢ 0
  added-kept Why a b f i h = elim (f i) [ inl e ↦ (λ z. h (sym e ∙ z)) | inr x ↦ absurd (h x.2) ]

  pub added-same : (Why : ℕ → Type 0) (a b : List ℕ) → AreAdded Why k a b → (i : ℕ) → slice_index a i ≡ k + 1 → slice_index b i ≡ k + 1
  added-same Why a b f i h = elim (f i) [ inl e ↦ e ∙ h | inr x ↦ absurd (omega (arith, x.2, h)) ]

  pub dropped-then : (a b c : List ℕ) → AreDropped k a b → AreDropped k b c → AreDropped k a c
  dropped-then a b c f g i = elim (g i) [
    | inl same ↦ elim (f i) [ inl e ↦ inl (same ∙ e) | inr x ↦ inr (x.0, same ∙ x.1) ]
    | inr y ↦ elim (f i) [ inl e ↦ inr (sym e ∙ y.0, y.1) | inr x ↦ inr (x.0, y.1) ]
  ]

  -- a property of the numbers whose cells are not 0 still holds, if it holds for those that are set
  module _ (Has : ℕ → Type 0) (a b : List ℕ) (has : (i : ℕ) → slice_index a i ≢ 0 → Has i) where
    pub lowered-has : (Why : ℕ → Type 0) → ((i : ℕ) → Why i → Has i) → AreLowered Why k a b → (i : ℕ) → slice_index b i ≢ 0 → Has i
    lowered-has Why why f i h = elim (f i) [ inl e ↦ has i (λ z. h (e ∙ z)) | inr x ↦ why i x.0 ]

    pub added-has : (Why : ℕ → Type 0) → ((i : ℕ) → Why i → Has i) → AreAdded Why k a b → (i : ℕ) → slice_index b i ≢ 0 → Has i
    added-has Why why f i h = elim (f i) [ inl e ↦ has i (λ z. h (e ∙ z)) | inr x ↦ why i x.0 ]

    pub dropped-has : AreDropped k a b → (i : ℕ) → slice_index b i ≢ 0 → Has i
    dropped-has f i h = elim (f i) [ inl e ↦ has i (λ z. h (e ∙ z)) | inr x ↦ absurd (h x.1) ]

  -- none of this changes which wins are encoded
  module _ {P : Type 0} (leads : P → P → Type 0) (mate : P → Type 0) (position : ℕ → Option P) where
    pub tells-same : (old new : List ℕ)
        → ((i : ℕ) → (slice_index new i ≡ slice_index old i) ⊎ (IsWonCell k (slice_index old i) → ⊥)
        × (IsWonCell k (slice_index new i) → ⊥)) → TellsWins leads mate k position old
        → TellsWins leads mate k position new
    tells-same old new same tells n p e = elim (same n) [
      | inl s ↦ (let t = tells n p e in (λ w. t.0 (subst (IsWonCell k) s w), λ m. subst (IsWonCell k) (sym s) (t.1 m)))
      | inr x ↦ (let t = tells n p e in (λ w. absurd (x.1 w), λ m. absurd (x.0 (t.1 m))))
    ]

    pub added-tells : (Why : ℕ → Type 0) (old new : List ℕ) → AreAdded Why k old new
        → TellsWins leads mate k position old → TellsWins leads mate k position new
    added-tells Why old new f =
        tells-same old new
        (λ i. elim (f i) [
          | inl e ↦ inl e
          | inr x ↦ inr (not_won-zero k (slice_index old i) x.2, not_won-next k (slice_index new i) x.1)
        ])

    pub dropped-tells : (old new : List ℕ) → AreDropped k old new → TellsWins leads mate k position old → TellsWins leads mate k position new
    dropped-tells old new f =
        tells-same old new
        (λ i. elim (f i) [
          | inl e ↦ inl e
          | inr x ↦ inr (not_won-next k (slice_index old i) x.0, not_won-zero k (slice_index new i) x.1)
        ])

-- a property of the first elements, and of one more
pub each-more : {M : Type 0} (Q : M → Type 0) (ms : List M) (i : ℕ) (d : M) → i < length ms
    → ((m : M) → Contains (take i ms) m → Q m) → Q (get_or ms i d) → (m : M) → Contains (take (i + 1) ms) m → Q m
each-more {M} Q ms i d b before here m c =
    elim
    (Contains-push_cases (take i ms) (get_or ms i d) m
    (subst (λ (xs : List M). Contains xs m) (take_more ms i d b) c)) [
      | inl h ↦ before m h
      | inr e ↦ subst Q e here
    ]

-- a property of the first cells, and of one that is set after them
pub set_below : (Q : ℕ → ℕ → Type 0) (xs : List ℕ) (n c : ℕ) → n < length xs → ((j : ℕ) → j < n → Q j (slice_index xs j))
    → Q n c → (j : ℕ) → j < n + 1 → Q j (slice_index (slice_set xs n c) j)
set_below Q xs n c b before here = below_more (λ j. Q j (slice_index (slice_set xs n c) j)) n
    (λ j l. subst (Q j) (sym (get_or-set_other xs n j c 0 (λ e. omega (arith, e, l)))) (before j l))
    (subst (Q n) (sym (get_or-set_same xs n c 0 b)) here)

-- an element of a list has a place
pub at_place : (xs : List ℕ) (x : ℕ) → Contains xs x → (t : ℕ) × (t < length xs) × (slice_index xs t ≡ x)
at_place [] x c = absurd (omega (arith, c.1))
at_place (y ∷ ys) x c = by_index (λ h. at_place ys x h) c.0 c.1 c.2
  where
    by_index : (Contains ys x → (t : ℕ) × (t < length ys) × (slice_index ys t ≡ x)) → (i : ℕ) → i < length (y ∷ ys)
        → get_or (y ∷ ys) i x ≡ x → (t : ℕ) × (t < length (y ∷ ys)) × (slice_index (y ∷ ys) t ≡ x)
    by_index f zero b e = (zero, b, e)
    by_index f (suc i) b e = let r = f (i, omega arith, e) in (suc r.0, omega (arith, r.1), r.2)

-- a position with this list of moves is lost if there is one, and each leads to a win
pub lost_listed : {P M : Type 0} (legal : P → M → Type 0) (after : P → M → P) (labels : P → Value) (k : ℕ) (p : P)
    (ms : List M) → ((m : M) → legal p m → Contains ms m) → ((m : M) → Contains ms m → legal p m)
    → ((m : M) → Contains ms m → (n : ℕ) × (labels (after p m) ≡ Win n) × (n ≤ k)) → (e : Bool) → e ≡ (length ms == 0)
    → (IsTrue (not e) → IsLostBy (LeadsBy legal after) labels k p) × (IsLostBy (LeadsBy legal after) labels k p → IsTrue (not e))
lost_listed legal after labels k p [] all only each false q = absurd (let no : false ≡ true = q in cc)
lost_listed legal after labels k p [] all only each true q = (
  λ t. absurd (let no : false ≡ true = t in cc),
  λ h. absurd (let c = all h.some.1.0 h.some.1.1 in omega (arith, c.1)),
)
lost_listed legal after labels k p (m ∷ ms) all only each true q = absurd (let z : length (m ∷ ms) ≡ 0 = eqb-true _ _ (sym q) in omega (arith, z))
lost_listed legal after labels k p (m ∷ ms) all only each false q = (
  λ t. record {
    some = (after p m, (m, only m (zero, omega arith, refl), refl));
    each = λ r l. let w = each l.0 (all l.0 l.1) in (w.0, ap labels (sym l.2) ∙ w.1, w.2);
  },
  λ h. refl,
)

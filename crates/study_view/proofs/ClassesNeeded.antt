-- Classes that positions need, one by one.
use Rattle.std.proofs.Common.{◌≡◌, ◌⊎◌, zero, suc, ◌+◌, Bool, true, List, [], ◌∷◌, ◌++◌, arith, refl, sym, ap, subst, ◌∙◌, inl, inr, append_assoc}
use Rattle.std.specs.Prelude.{◌↔◌}
use Rattle.std.specs.List.{Contains}
use Rattle.study_board.specs.Position.{Position, IsValid}
use Rattle.study_material.specs.declared.class.Class.{Class}
use Rattle.study_material.specs.Class.{IsOf, PositionsHaveOneClass}
use Rattle.study_material.specs.Needs.{IsNeeded, IsOrder, NeedsClass}
use Rattle.study_view.specs.Setup.{AreThose}

-- ---- elements of a list

pub contains-none : (c : Class) → Contains [] c → ⊥
contains-none c (k, lt, e) = omega (arith, lt)

pub contains-here : (d c : Class) (cs : List Class) → d ≡ c → Contains (d ∷ cs) c
contains-here d c cs e = (0, omega arith, e)

pub contains-there : (d c : Class) (cs : List Class) → Contains cs c → Contains (d ∷ cs) c
contains-there d c cs (k, lt, e) = (suc k, omega (arith, lt), e)

pub contains-either : (d c : Class) (cs : List Class) → Contains (d ∷ cs) c → (d ≡ c) ⊎ Contains cs c
contains-either d c cs (zero, lt, e) = inl e
contains-either d c cs (suc k, lt, e) = inr (k, omega (arith, lt), e)

-- ---- the classes that a position needs

pub needs_class_by : (p : Position) (own class : Class) (list items : List Class) (b : Bool) → PositionsHaveOneClass → IsValid p → IsOf own p → IsOrder own list
    → items ≡ list → (b ≡ true) ↔ Contains items class → (b ≡ true) ↔ NeedsClass p class
needs_class_by p own class list items b one valid is order same found = (
  λ e. (own, is, (order.each class).0 (subst (λ (ds : List Class). Contains ds class) same (found.0 e))),
  λ (c, of, needed).
      let law = one p valid in
      let mine : c ≡ own = law.one c of ∙ sym (law.one own is) in
      found.1 (subst (λ (ds : List Class). Contains ds class) (sym same) ((order.each class).1 (subst (λ (k : Class). IsNeeded k class) mine needed))),
)

-- ---- one class more

module _ (Has : Class → Type 0) (c : Class) (cs old mid new : List Class) where
  pub those_one : Has c → mid ≡ old ++ c ∷ [] → (more : List Class) × AreThose Has cs more × (new ≡ mid ++ more)
      → (more : List Class) × AreThose Has (c ∷ cs) more × (new ≡ old ++ more)
  those_one has m (more, are, is) = (c ∷ more, inl (more, has, are, refl), is ∙ ap (λ (l : List Class). l ++ more) m ∙ append_assoc old (c ∷ []) more)

  pub those_past : (Has c → ⊥) → (more : List Class) × AreThose Has cs more × (new ≡ old ++ more)
      → (more : List Class) × AreThose Has (c ∷ cs) more × (new ≡ old ++ more)
  those_past lacks (more, are, is) = (more, inr (lacks, are), is)

-- a class that is not the first is one of the others
pub in_rest : (d c : Class) (rest items : List Class) (b : Bool) → items ≡ d ∷ rest → (d ≡ c → ⊥) → (b ≡ true) ↔ Contains rest c → (b ≡ true) ↔ Contains items c
in_rest d c rest items b e other (f, g) = (
  λ t. subst (λ (l : List Class). Contains l c) (sym e) (contains-there d c rest (f t)),
  λ k. g (elim (contains-either d c rest (subst (λ (l : List Class). Contains l c) e k)) [ inl same ↦ absurd (other same) | inr more ↦ more ]),
)

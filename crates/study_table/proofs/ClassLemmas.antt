-- The values in a class's cells, for all its positions.
use Rattle.std.proofs.Common.{◌≡◌, ℕ, ◌<◌, ◌⊎◌, inl, inr, sym, ◌∙◌, ap, subst, refl, List, slice_index, Option, Some, None, Bool, true, false, if◌then◌else◌}
use Rattle.study_values.specs.declared.value.Value.{Value}
use Rattle.study_table.specs.Forced.{IsGame, GivesValue}
use Rattle.study_values.specs.Cells.{value_of, label_of}
use Rattle.study_table.specs.Right.{IsRightCell, AreRight, IsRightOutside, IsGivenCell, IsOtherCell}
use Rattle.study_table.specs.Class.{IsClass}
use Rattle.study_table.proofs.ForcedLemmas.{IsGame-unique, IsGame-Gives, settled}
use Rattle.study_table.proofs.AlongLemmas.{KeepsMoves, IsGame-along, Gives-along}

pub true_or_false : (b : Bool) → (b ≡ true) ⊎ (b ≡ false)
true_or_false true = inl refl
true_or_false false = inr refl

pub some_or_none : {P : Type 0} (o : Option P) → ((p : P) × (o ≡ Some p)) ⊎ (o ≡ None)
some_or_none (Some p) = inl (p, refl)
some_or_none None = inr refl

module _ {P : Type 0} {leads : P → P → Type 0} {mate : P → Type 0} {known : P → Type 0} {home : P → Bool} {index : P
    → ℕ} {outside : P → Value} {position : ℕ → Option P} {size : ℕ} {image : P → P → Type 0}
    (laws : IsClass leads mate known home index outside position size image) (cells : List ℕ) where
  abbrev Labels : P → Value
  Labels = label_of home index outside cells

  pub image_keeps : KeepsMoves leads mate image
  image_keeps = record { back = laws.back; move = laws.move; mated = laws.mated }

  pub label-home : (p : P) → home p ≡ true → Labels p ≡ value_of (slice_index cells (index p))
  label-home p e = ap (λ (b : Bool). if b then value_of (slice_index cells (index p)) else outside p) e

  pub label-outside : (p : P) → home p ≡ false → Labels p ≡ outside p
  label-outside p e = ap (λ (b : Bool). if b then value_of (slice_index cells (index p)) else outside p) e

  -- images have the same label, if the values known outside the class are right
  pub same_label : IsRightOutside leads mate known home outside → (p q : P) → known p → image p q → Labels p ≡ Labels q
  same_label outer p q k r = elim (true_or_false (home p)) [
    | inl e ↦ label-home p e ∙ ap (λ (n : ℕ). value_of (slice_index cells n)) (laws.same_index p q k e r)
        ∙ sym (label-home q (sym (laws.same_home p q k r) ∙ e))
    | inr e ↦ (
        let away = sym (laws.same_home p q k r) ∙ e in
        let along = IsGame-along leads mate image image_keeps p q (outside p) r (outer p k e) in
        let there = outer q (laws.same_known p q k r) away in
        label-outside p e ∙ IsGame-unique leads mate laws.stuck q (outside p) (outside q) along there ∙ sym (label-outside q away))
  ]

  -- the label of a number's position is its cell's
  pub label-position : (n : ℕ) (p : P) → position n ≡ Some p → Labels p ≡ value_of (slice_index cells n)
  label-position n p e = let d = laws.decoded n p e in label-home p d.1 ∙ ap (λ (m : ℕ). value_of (slice_index cells m)) d.2

  -- the labels of known positions by right cells are right
  pub labels-right : IsRightOutside leads mate known home outside → AreRight leads mate position size cells → (p : P) → known p → IsGame leads mate p (Labels p)
  labels-right outer right p k = elim (true_or_false (home p)) [
    | inl e ↦
        let n = laws.numbered p k e in
        let cell = slice_index cells (index p) in
        let at = subst (λ (o : Option P). IsRightCell leads mate o cell) n.1 (right (index p) (laws.below (index p) n.0 n.1)) in
        subst (IsGame leads mate p) (sym (label-home p e)) (IsGame-along leads mate image image_keeps n.0 p (value_of cell) n.2 at)
    | inr e ↦ subst (IsGame leads mate p) (sym (label-outside p e)) (outer p k e)
  ]

  -- the value that right cells give a position is right
  pub given-right : IsRightOutside leads mate known home outside → AreRight leads mate position size cells
      → (p : P) (v : Value) → known p → home p ≡ true → GivesValue leads mate Labels p v → IsGame leads mate p v
  given-right outer right p v k e g = IsGame-Gives leads mate laws.stuck Labels p v (λ q l. labels-right outer right q (laws.closed p q k e l)) g

  -- among right cells none encodes another value than they give
  pub other-wrong : IsRightOutside leads mate known home outside → AreRight leads mate position size cells → (n : ℕ)
      → n < size → IsOtherCell leads mate Labels (position n) (slice_index cells n) → ⊥
  other-wrong outer right n b h = elim (some_or_none (position n)) [
    | inl s ↦
        let cell = slice_index cells n in
        let d = laws.decoded n s.0 s.1 in
        let w = subst (λ (o : Option P). IsOtherCell leads mate Labels o cell) s.1 h in
        let is = subst (λ (o : Option P). IsRightCell leads mate o cell) s.1 (right n b) in
        w.2 (IsGame-unique leads mate laws.stuck s.0 w.0 (value_of cell) (given-right outer right s.0 w.0 d.0 d.1 w.1) is)
    | inr e ↦
        let cell = slice_index cells n in
        let w = subst (λ (o : Option P). IsOtherCell leads mate Labels o cell) e h in
        w (subst (λ (o : Option P). IsRightCell leads mate o cell) e (right n b))
  ]

  -- cells that are each right, or equal to the value that the cells give, are right
  pub cells-settled : IsRightOutside leads mate known home outside
      → ((n : ℕ) → n < size → IsRightCell leads mate (position n) (slice_index cells n) ⊎ IsGivenCell leads mate Labels (position n) (slice_index cells n))
      → AreRight leads mate position size cells
  cells-settled outer each n b = elim (some_or_none (position n)) [
    | inl s ↦
        let d = laws.decoded n s.0 s.1 in
        subst (λ (o : Option P). IsRightCell leads mate o cell) (sym s.1)
        (subst (IsGame leads mate s.0) (label-position n s.0 s.1)
        (settled leads mate laws.stuck known Labels known_each s.0 d.0))
    | inr e ↦ elim (each n b) [
      | inl h ↦ h
      | inr h ↦ subst (λ (o : Option P). IsRightCell leads mate o cell) (sym e) (subst (λ (o : Option P). IsGivenCell leads mate Labels o cell) e h)
    ]
  ]
    where
      cell : ℕ
      cell = slice_index cells n

      from_number : (p q : P) → known p → home p ≡ true → position (index p) ≡ Some q → image q p
          → IsRightCell leads mate (position (index p)) (slice_index cells (index p))
          ⊎ IsGivenCell leads mate Labels (position (index p)) (slice_index cells (index p))
          → IsGame leads mate p (Labels p) ⊎ GivesValue leads mate Labels p (Labels p) × ((q : P) → leads p q → known q)
      from_number p q k e s r (inl h) =
          let at = subst (λ (o : Option P). IsRightCell leads mate o (slice_index cells (index p))) s h in
          inl (subst (IsGame leads mate p) (sym (label-home p e)) (IsGame-along leads mate image image_keeps q p (value_of (slice_index cells (index p))) r at))
      from_number p q k e s r (inr h) =
          let at = subst (λ (o : Option P). IsGivenCell leads mate Labels o (slice_index cells (index p))) s h in
          let d = laws.decoded (index p) q s in
          inr (
            subst (GivesValue leads mate Labels p) (sym (label-home p e))
                (Gives-along leads mate image image_keeps known Labels (same_label outer) q p
                (value_of (slice_index cells (index p))) (λ q' l. laws.closed q q' d.0 d.1 l)
                (λ q' l. laws.closed p q' k e l) r at),
            λ q' l. laws.closed p q' k e l,
          )

      known_each : (p : P) → known p → IsGame leads mate p (Labels p) ⊎ GivesValue leads mate Labels p (Labels p) × ((q : P) → leads p q → known q)
      known_each p k = elim (true_or_false (home p)) [
        | inl e ↦ (let m = laws.numbered p k e in from_number p m.0 k e m.1 m.2 (each (index p) (laws.below (index p) m.0 m.1)))
        | inr e ↦ inl (subst (IsGame leads mate p) (sym (label-outside p e)) (outer p k e))
      ]

-- The meaning of cells before a level: which positions are won within so many plies, and which are lost in one more.
use Rattle.std.proofs.Common.{◌≡◌, ◌≢◌, ℕ, suc, ◌+◌, ◌-◌, ◌%◌, add-one, ◌<◌, ◌≤◌, ◌⊎◌, inl, inr, sym, ◌∙◌}
use Rattle.std.proofs.Common.{ap, subst, arith, List, slice_index, Option, Some, Bool, true, []}
use Rattle.study_values.specs.declared.value.Value.{Value}
use Rattle.study_values.specs.declared.value.Value.TheVariants.{Win, Loss, Draw}
use Rattle.study_table.specs.Forced.{Mated, Mates, IsGame}
use Rattle.study_values.specs.Cells.{value_of, label_of}
use Rattle.study_table.specs.Right.{IsRightOutside}
use Rattle.study_table.specs.Class.{IsClass}
use Rattle.study_levels.specs.Propagation.{IsLostBy, IsWonCell, TellsWins, IsHeld, IsHeldCell, AreBoundedCells}
use Rattle.study_table.proofs.ForcedLemmas.{Mates-le, Mates-Mated}
use Rattle.study_table.proofs.AlongLemmas.{Mates-along, Mated-along}
use Rattle.study_table.proofs.ClassLemmas.{true_or_false, image_keeps, label-home, label-outside}
use Rattle.study_table.proofs.LevelLemmas.{zero_or_not}
use Rattle.std.proofs.lemmas.Bool.Decides.{nat_tests}

pub value_of-even : (c : ℕ) → c ≢ 0 → c % 2 ≡ 0 → value_of c ≡ Win (c - 1)
value_of-even c h e = grind (arith, nat_tests)

pub value_of-odd : (c : ℕ) → c % 2 ≡ 1 → value_of c ≡ Loss (c - 1)
value_of-odd c e = grind (arith, nat_tests)

pub even_or_odd : (c : ℕ) → (c % 2 ≡ 0) ⊎ (c % 2 ≡ 1)
even_or_odd c = grind arith

pub le_or_above : (c k : ℕ) → (c ≤ k) ⊎ (k < c)
le_or_above c k = grind arith

-- a value that is a win is encoded by an even cell
pub won_cell : (c m : ℕ) → value_of c ≡ Win m → (c % 2 ≡ 0) × (c ≢ 0) × (c ≡ m + 1)
won_cell c m e = elim (zero_or_not c) [
  | inl z ↦ absurd (let d : value_of c ≡ Draw = ap value_of z in let no : ⊥ = cc in no)
  | inr z ↦ elim (even_or_odd c) [
    | inl even ↦ (let w : value_of c ≡ Win (c - 1) = value_of-even c z even in let same : c - 1 ≡ m = cc in
        let pos : 0 < c = omega arith in (even, z, omega arith))
    | inr odd ↦ absurd (let l : value_of c ≡ Loss (c - 1) = value_of-odd c odd in let no : ⊥ = cc in no)
  ]
]

module _ {P : Type 0} {leads : P → P → Type 0} {mate : P → Type 0} {known : P → Type 0} {home : P → Bool} {index : P
    → ℕ} {outside : P → Value} {position : ℕ → Option P} {size : ℕ} {image : P → P → Type 0}
    (laws : IsClass leads mate known home index outside position size image) where
  -- the position of a number of the class, and its image
  pub home_number : (q : P) → known q → home q ≡ true → (o : P) × (position (index q) ≡ Some o) × image o q × (index q < size)
  home_number q k e = let m = laws.numbered q k e in (m.0, m.1, m.2, laws.below (index q) m.0 m.1)

  pub Mates-image : (n : ℕ) (p q : P) → image p q → Mates leads mate p n → Mates leads mate q n
  Mates-image n p q i h = Mates-along leads mate image (image_keeps laws []) n p q i h

  pub Mated-image : (n : ℕ) (p q : P) → image p q → Mated leads mate p n → Mated leads mate q n
  Mated-image n p q i h = Mated-along leads mate image (image_keeps laws []) n p q i h

  -- a cell with this meaning encodes whether its position is won within k plies
  pub held-wins : (far : Bool) (k c : ℕ) (p : P) → IsHeld leads mate home far k p c
      → (IsWonCell k c → Mates leads mate p k) × (Mates leads mate p k → IsWonCell k c)
  held-wins far k c p h = (to, from)
    where
      to : IsWonCell k c → Mates leads mate p k
      to w =
          let g = h.set w.1 w.2 in
          let is = subst (IsGame leads mate p) (value_of-even c w.1 w.0) g in
          Mates-le leads mate (c - 1) k p (let b = w.2 in omega arith) is.forced

      from : Mates leads mate p k → IsWonCell k c
      from m = elim (zero_or_not c) [
        | inl z ↦ absurd (h.unmating (inl z) m)
        | inr z ↦ elim (le_or_above c (k + 1)) [
          | inr l ↦ absurd (h.unmating (inr l) m)
          | inl l ↦ elim (even_or_odd c) [
            | inl even ↦ (even, z, l)
            | inr odd ↦ absurd (let g = subst (IsGame leads mate p) (value_of-odd c odd) (h.set z l) in Mates-Mated
                leads mate laws.stuck k (c - 1) p m g.forced)
          ]
        ]
      ]

  pub held-tells : (far : Bool) (k : ℕ) (cells : List ℕ) → AreBoundedCells leads mate home far k position size cells → TellsWins leads mate k position cells
  held-tells far k cells held n p e =
      let h = subst (λ (o : Option P). IsHeldCell leads mate home far k o (slice_index cells n)) e (held n (laws.below n p e)) in
      held-wins far k (slice_index cells n) p h

  module _ (cells : List ℕ) (outer : IsRightOutside leads mate known home outside) (k : ℕ) (tells : TellsWins leads mate k position cells) where
    abbrev Labels : P → Value
    Labels = label_of home index outside cells

    -- a label of a win within k plies is right
    pub label-won : (q : P) (m : ℕ) → known q → Labels q ≡ Win m → m ≤ k → Mates leads mate q k
    label-won q m kq e l = elim (true_or_false (home q)) [
      | inl h ↦ (
          let n = home_number q kq h in
          let w = won_cell (slice_index cells (index q)) m (sym (label-home laws cells q h) ∙ e) in
          Mates-image k n.0 q n.2 ((tells (index q) n.0 n.1).0 (w.0, w.1, omega (arith, w.2))))
      | inr h ↦ (
          let g = subst (IsGame leads mate q) (sym (label-outside laws cells q h) ∙ e) (outer q kq h) in
          Mates-le leads mate m k q l g.forced)
    ]

    -- a position that is won within k plies has such a label
    pub won-label : (q : P) → known q → Mates leads mate q k → (m : ℕ) × (Labels q ≡ Win m) × (m ≤ k)
    won-label q kq w = elim (true_or_false (home q)) [
      | inl h ↦ (
          let n = home_number q kq h in
          let c = slice_index cells (index q) in
          let t = (tells (index q) n.0 n.1).1 (Mates-image k q n.0 (laws.back n.0 q n.2) w) in
          (c - 1, label-home laws cells q h ∙ value_of-even c t.1 t.0, (let b = t.2 in omega arith)))
      | inr h ↦ by_value (outside q) (label-outside laws cells q h) (outer q kq h)
    ]
      where
        by_value : (v : Value) → Labels q ≡ v → IsGame leads mate q v → (m : ℕ) × (Labels q ≡ Win m) × (m ≤ k)
        by_value (Win m) e g = (m, e, g.least k w)
        by_value (Loss m) e g = absurd (Mates-Mated leads mate laws.stuck k m q w g.forced)
        by_value Draw e g = absurd (g.no_win k w)

    pub lost-sound : (p : P) → known p → home p ≡ true → IsLostBy leads Labels k p → Mated leads mate p (k + 1)
    lost-sound p kp hp h =
        subst (Mated leads mate p) (sym (add-one k))
        (inr (h.some, λ q l. let e = h.each q l in label-won q e.0 (laws.closed p q kp hp l) e.1 e.2))

    pub lost-complete : (p q : P) → known p → home p ≡ true → leads p q → Mated leads mate p (k + 1) → IsLostBy leads Labels k p
    lost-complete p q kp hp l m = by_cases (subst (Mated leads mate p) (add-one k) m)
      where
        by_cases : Mated leads mate p (suc k) → IsLostBy leads Labels k p
        by_cases (inl x) = absurd (laws.stuck p q x l)
        by_cases (inr x) = record { some = (q, l); each = λ r i. won-label r (laws.closed p r kp hp i) (x.1 r i) }

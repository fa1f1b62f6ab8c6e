-- From the cells before a level to the cells after it.
use Rattle.std.proofs.Common.{◌≡◌, ◌≢◌, ℕ, zero, suc, ◌+◌, ◌-◌, ◌%◌, add-one, ◌<◌, ◌≤◌, ◌⊎◌, inl, inr, sym, ◌∙◌, ap}
use Rattle.std.proofs.Common.{subst, refl, arith, List, slice_index, Option, Some, None, Bool, true, false}
use Rattle.study_values.specs.declared.value.Value.{Value}
use Rattle.study_values.specs.declared.value.Value.TheVariants.{Win, Loss, Draw}
use Rattle.study_table.specs.Forced.{Mated, Mates, IsWin, IsLoss, IsGame}
use Rattle.study_values.specs.Cells.{value_of}
use Rattle.study_table.specs.Right.{IsRightOutside}
use Rattle.study_table.specs.Class.{IsClass}
use Rattle.study_levels.specs.Propagation.{LeadsTo, IsHeld, IsHeldCell, AreBoundedCells}
use Rattle.study_table.proofs.ForcedLemmas.{Mates-le, Mates-Mated}
use Rattle.study_table.proofs.ParityLemmas.{Mated-odd, Mates-even}
use Rattle.study_table.proofs.ClassLemmas.{true_or_false, some_or_none}
use Rattle.study_table.proofs.LevelLemmas.{zero_or_not}
use Rattle.study_levels.proofs.HeldLemmas.{value_of-even, value_of-odd, even_or_odd, le_or_above, home_number, Mates-image, Mated-image, held-wins}

-- a cell that is not set within k plies
abbrev pub IsFree : ℕ → ℕ → Type 0
IsFree k c = (c ≡ 0) ⊎ (k + 1 < c)

-- a cell is set within k plies or not
pub free_or_set : (k c : ℕ) → IsFree k c ⊎ (c ≢ 0) × (c ≤ k + 1)
free_or_set k c = elim (zero_or_not c) [
  | inl z ↦ inl (inl z)
  | inr z ↦ elim (le_or_above c (k + 1)) [ inl l ↦ inr (z, l) | inr l ↦ inl (inr l) ]
]

pub equal_or_less : (j m : ℕ) → j ≤ m → (j ≡ m) ⊎ (suc j ≤ m)
equal_or_less j m h = grind arith

module _ {P : Type 0} (leads : P → P → Type 0) (mate : P → Type 0) where
  pub Mated-suc : (n : ℕ) (p : P) → Mated leads mate p n → Mated leads mate p (suc n)
  Mated-suc zero p h = inl h
  Mated-suc (suc n) p (inl h) = inl h
  Mated-suc (suc n) p (inr h) = inr (h.0, λ q l. Mates-le leads mate n (suc n) q (omega arith) (h.1 q l))

  pub Mated-le : (n m : ℕ) (p : P) → n ≤ m → Mated leads mate p n → Mated leads mate p m
  Mated-le n zero p l h = subst (Mated leads mate p) (let e : n ≡ zero = omega arith in e) h
  Mated-le n (suc m) p l h = elim (equal_or_less n (suc m) l) [
    | inl e ↦ subst (Mated leads mate p) e h
    | inr k ↦ Mated-suc m p (Mated-le n m p (omega arith) h)
  ]

module _ {P : Type 0} {leads : P → P → Type 0} {mate : P → Type 0} {known : P → Type 0} {home : P → Bool} {index : P
    → ℕ} {outside : P → Value} {position : ℕ → Option P} {size : ℕ} {image : P → P → Type 0}
    (laws : IsClass leads mate known home index outside position size image) (outer : IsRightOutside leads mate known home outside)
    (far : Bool) (k : ℕ) (reach : far ≡ true → k < 254) (old : List ℕ) (held : AreBoundedCells leads mate home far k position size old) where
  held-at : (n : ℕ) (p : P) → position n ≡ Some p → IsHeld leads mate home far k p (slice_index old n)
  held-at n p e = subst (λ (o : Option P). IsHeldCell leads mate home far k o (slice_index old n)) e (held n (laws.below n p e))

  -- a position that is mated within k plies, in no fewer than the mates that are set
  lost-cell : (q o : P) (n : ℕ) → position n ≡ Some o → Mated leads mate o k
      → (Mated leads mate o (slice_index old n - 1)) × (slice_index old n ≢ 0) × (slice_index old n ≤ k + 1)
  lost-cell q o n e m = elim (free_or_set k (slice_index old n)) [
    | inl free ↦ absurd ((held-at n o e).unmated free m)
    | inr set ↦ elim (even_or_odd (slice_index old n)) [
      | inl even ↦ absurd (
          let g = subst (IsGame leads mate o) (value_of-even (slice_index old n) set.0 even) ((held-at n o e).set set.0 set.1) in
          Mates-Mated leads mate laws.stuck (slice_index old n - 1) k o g.forced m)
      | inr odd ↦ (
          let g = subst (IsGame leads mate o) (value_of-odd (slice_index old n) odd) ((held-at n o e).set set.0 set.1) in
          (g.forced, set.0, set.1))
    ]
  ]

  -- a win in k + 1 plies is by a move to a position lost in exactly k, or out of the class
  pub mates-next : (R : Type 0) (n : ℕ) (p : P) → position n ≡ Some p → IsFree k (slice_index old n) → Mates leads mate p (suc k)
      → ((j : ℕ) → j < size → slice_index old j ≡ k + 1 → LeadsTo leads home index position n j → R)
      → ((slice_index old n % 2 ≡ 0) × (slice_index old n ≢ 0) × (slice_index old n ≤ k + 2) → R) → R
  mates-next R n p e free m by_home by_out =
      let d = laws.decoded n p e in
      let q = m.0 in let l = m.1 in
      let kq = laws.closed p q d.0 d.1 l in
      elim (true_or_false (home q)) [
        | inr out ↦ by_out ((held-at n p e).won q k reach l out m.2)
        | inl h ↦ (
            let o = home_number laws q kq h in
            let c = lost-cell q o.0 (index q) o.1 (Mated-image laws k q o.0 (laws.back o.0 q o.2) m.2) in
            elim (equal_or_less (slice_index old (index q)) (k + 1) c.2) [
              | inl same ↦ by_home (index q) o.3 same (p, q, e, l, h, refl)
              | inr less ↦ absurd ((held-at n p e).unmating free (
                  let sooner : Mates leads mate p (suc (slice_index old (index q) - 1)) =
                  (q, l, Mated-image laws (slice_index old (index q) - 1) o.0 q o.2 c.0) in
                  let pos : slice_index old (index q) ≢ 0 = c.1 in
                  Mates-le leads mate (suc (slice_index old (index q) - 1)) k p (omega arith) sooner))
            ])
      ]

  -- a loss in k + 1 plies has a move to a position won in exactly k, or out of the class
  pub mated-next : (k' : ℕ) → k ≡ suc k' → (n : ℕ) (p : P) → position n ≡ Some p → IsFree k (slice_index old n) → Mated leads mate p (suc k)
      → ((j : ℕ) → j < size → slice_index old j ≡ k + 1 → LeadsTo leads home index position n j → ⊥)
      → ((slice_index old n % 2 ≡ 1) × (k + 2 ≤ slice_index old n) → ⊥) → ⊥
  mated-next k' ek n p e free m no_home no_out = by_cases m
    where
      d : known p × (home p ≡ true) × (index p ≡ n)
      d = laws.decoded n p e

      sooner : (q : P) → leads p q → Mates leads mate q k → Mates leads mate q k'
      sooner q l w = elim (true_or_false (home q)) [
        | inl h ↦ (
            let o = home_number laws q (laws.closed p q d.0 d.1 l) h in
            let c = slice_index old (index q) in
            let hold = held-at (index q) o.0 o.1 in
            let t = (held-wins laws far k c o.0 hold).1 (Mates-image laws k q o.0 (laws.back o.0 q o.2) w) in
            let g = subst (IsGame leads mate o.0) (value_of-even c t.1 t.0) (hold.set t.1 t.2) in
            elim (equal_or_less c (k + 1) t.2) [
              | inl same ↦ absurd (no_home (index q) o.3 same (p, q, e, l, h, refl))
              | inr less ↦ Mates-image laws k' o.0 q o.2 (Mates-le leads mate (c - 1) k' o.0 (omega (arith, ek)) g.forced)
            ])
        | inr out ↦ by_value (outside q) out (outer q (laws.closed p q d.0 d.1 l) out)
      ]
        where
          by_value : (v : Value) → home q ≡ false → IsGame leads mate q v → Mates leads mate q k'
          by_value (Win i) out g = elim (equal_or_less i k (g.least k w)) [
            | inl same ↦ absurd (no_out (subst (λ (j : ℕ). (slice_index old n % 2 ≡ 1) × (j + 2 ≤ slice_index old n)) same
                ((held-at n p e).lost q i (suc k) (λ f. subst (λ (j : ℕ). j < 254) (sym same) (reach f)) (omega (arith, same)) l out g m)))
            | inr less ↦ Mates-le leads mate i k' q (omega (arith, ek)) g.forced
          ]
          by_value (Loss i) out g = absurd (Mates-Mated leads mate laws.stuck k i q w g.forced)
          by_value Draw out g = absurd (g.no_win k w)

      by_cases : Mated leads mate p (suc k) → ⊥
      by_cases (inl x) = (held-at n p e).unmated free (Mated-le leads mate zero k p (omega arith) x)
      by_cases (inr x) = (held-at n p e).unmated free (subst (Mated leads mate p) (sym ek) (inr (x.0, λ q l. sooner q l (x.1 q l))))

  -- a cell that is not set, of a position won in k + 1 plies
  won-next : (p : P) (c : ℕ) → IsHeld leads mate home far k p c → IsFree k c → Mates leads mate p (k + 1) → IsWin leads mate p (k + 1)
  won-next p c h free m =
      record {
        forced = m;
        least = λ i x. elim (le_or_above i k)
            [ inl l ↦ absurd (h.unmating free (Mates-le leads mate i k p l x)) | inr l ↦ omega arith ];
      }

  lost-next : (p : P) (c : ℕ) → IsHeld leads mate home far k p c → IsFree k c → Mated leads mate p (k + 1) → IsLoss leads mate p (k + 1)
  lost-next p c h free m =
      record {
        forced = m;
        least = λ i x. elim (le_or_above i k)
            [ inl l ↦ absurd (h.unmated free (Mated-le leads mate i k p l x)) | inr l ↦ omega arith ];
      }

  injective : (n : ℕ) (p q : P) → position n ≡ Some p → position n ≡ Some q → p ≡ q
  injective n p q e f = let g : Some p ≡ Some q = sym e ∙ f in cc

  -- the positions before one that is lost in exactly k plies are won in one more
  pub won-by : (i j : ℕ) (p : P) → k % 2 ≡ 0 → slice_index old j ≡ k + 1 → LeadsTo leads home index position i j
      → position i ≡ Some p → Mates leads mate p (k + 1)
  won-by i j p even e t f =
      let d = laws.decoded i t.0 t.2 in
      let o = home_number laws t.1 (laws.closed t.0 t.1 d.0 d.1 t.3) t.4 in
      let at : position j ≡ Some o.0 = subst (λ (n : ℕ). position n ≡ Some o.0) t.5 o.1 in
      let h = held-at j o.0 at in
      let c = slice_index old j in
      let odd : c % 2 ≡ 1 = omega (arith, e) in
      let g = subst (IsGame leads mate o.0) (value_of-odd c odd) (h.set (omega (arith, e)) (omega (arith, e))) in
      let m = subst (λ (n : ℕ). Mated leads mate o.0 n) (let s : c - 1 ≡ k = omega (arith, e) in s) g.forced in
      let w : Mates leads mate t.0 (suc k) = (t.1, t.3, Mated-image laws k o.0 t.1 o.2 m) in
      subst (λ (x : P). Mates leads mate x (k + 1)) (injective i t.0 p t.2 f) (subst (Mates leads mate t.0) (sym (add-one k)) w)

  -- a cell that a level of losses does not change
  same-even : (n c : ℕ) (p : P) → k % 2 ≡ 0 → position n ≡ Some p → slice_index old n ≡ c
      → ((j : ℕ) → j < size → slice_index old j ≡ k + 1 → LeadsTo leads home index position n j → (c ≢ 0)
      × (c ≤ k + 2)) → IsHeld leads mate home far (k + 1) p c
  same-even n c p even e f done = record {
    set = λ z l. elim (free_or_set k c) [
      | inr s ↦ h.set z s.1
      | inl free ↦ elim free [
        | inl none ↦ absurd (z none)
        | inr above ↦ (
            let is : c ≡ k + 2 = omega arith in
            let m = subst (Mates leads mate p) (let r : c - 1 ≡ k + 1 = omega (arith, is) in r) (h.wins above (omega (arith, is))) in
            let v : value_of c ≡ Win (k + 1) = value_of-even c z (omega (arith, is)) ∙ ap Win (let r : c - 1 ≡ k + 1 = omega (arith, is) in r) in
            subst (IsGame leads mate p) (sym v) (won-next p c h (inr above) m))
      ]
    ];
    unmating = λ free m. mates-next ⊥ n p e (subst (IsFree k) (sym f) (less free)) (subst (Mates leads mate p) (add-one k) m)
        (λ j b s t. no free (done j b s t))
        (λ x. no free (let y = subst (λ (i : ℕ). (i % 2 ≡ 0) × (i ≢ 0) × (i ≤ k + 2)) f x in (y.1, y.2)));
    unmated = λ free m. h.unmated (less free) (Mated-odd leads mate k p even (subst (Mated leads mate p) (add-one k) m));
    wins = λ l. h.wins (omega arith);
    lasts = λ l. h.lasts (omega arith);
    won = h.won;
    lost = λ q j m r l. h.lost q j m r (omega arith);
  }
    where
      h : IsHeld leads mate home far k p c
      h = subst (IsHeld leads mate home far k p) f (held-at n p e)

      less : IsFree (k + 1) c → IsFree k c
      less (inl z) = inl z
      less (inr l) = inr (omega arith)

      no : IsFree (k + 1) c → (c ≢ 0) × (c ≤ k + 2) → ⊥
      no (inl z) x = x.0 z
      no (inr l) x = omega (arith, x.1)

  -- a cell that a level of losses sets
  raised-even : (n c : ℕ) (p : P) → k % 2 ≡ 0 → position n ≡ Some p → slice_index old n ≡ c → (c ≡ 0) ⊎ (k + 2 < c)
      → Mates leads mate p (k + 1) → IsHeld leads mate home far (k + 1) p (k + 2)
  raised-even n c p even e f above m = record {
    set = λ z l. (
        let v : value_of (k + 2) ≡ Win (k + 1) = value_of-even (k + 2) (omega arith) (omega arith) ∙ ap Win (let r : k + 2 - 1 ≡ k + 1 = omega arith in r) in
        subst (IsGame leads mate p) (sym v) (won-next p c h free m));
    unmating = λ x. absurd (never x);
    unmated = λ x. absurd (never x);
    wins = λ l. absurd (omega arith);
    lasts = λ l. absurd (omega arith);
    won = λ q j r l out w. let b = h.won q j r l out w in (omega arith, omega arith, bound j b above);
    lost = λ q j i r l s out w x. absurd (Mates-Mated leads mate laws.stuck (k + 1) i p m x);
  }
    where
      h : IsHeld leads mate home far k p c
      h = subst (IsHeld leads mate home far k p) f (held-at n p e)

      free : IsFree k c
      free = elim above [ inl z ↦ inl z | inr l ↦ inr (omega arith) ]

      never : IsFree (k + 1) (k + 2) → ⊥
      never (inl z) = omega (arith, z)
      never (inr l) = omega arith

      bound : (j : ℕ) → (c % 2 ≡ 0) × (c ≢ 0) × (c ≤ j + 2) → (c ≡ 0) ⊎ (k + 2 < c) → k + 2 ≤ j + 2
      bound j b (inl z) = absurd (b.1 z)
      bound j b (inr l) = omega (arith, b.2)

  -- a level of losses
  pub level-even : (new : List ℕ) → k % 2 ≡ 0
      → ((i : ℕ) → (slice_index new i ≡ slice_index old i)
      ⊎ ((j : ℕ) × (slice_index old j ≡ k + 1) × LeadsTo leads home index position i j)
      × (slice_index new i ≡ k + 2) × ((slice_index old i ≡ 0) ⊎ (k + 2 < slice_index old i)))
      → ((i j : ℕ) → j < size → slice_index old j ≡ k + 1 → LeadsTo leads home index position i j → (slice_index new i ≢ 0) × (slice_index new i ≤ k + 2))
      → AreBoundedCells leads mate home far (k + 1) position size new
  level-even new even rise done n b = elim (some_or_none (position n)) [
    | inl s ↦ subst (λ (o : Option P). IsHeldCell leads mate home far (k + 1) o (slice_index new n)) (sym s.1) (elim (rise n) [
      | inl same ↦ same-even n (slice_index new n) s.0 even s.1 (sym same) (λ j l e t. done n j l e t)
      | inr x ↦ subst (IsHeld leads mate home far (k + 1) s.0) (sym x.1)
          (raised-even n (slice_index old n) s.0 even s.1 refl x.2 (won-by n x.0.0 s.0 even x.0.1 x.0.2 s.1))
    ])
    | inr none ↦ subst (λ (o : Option P). IsHeldCell leads mate home far (k + 1) o (slice_index new n)) (sym none) (elim (rise n) [
      | inl same ↦ same ∙ subst (λ (o : Option P). IsHeldCell leads mate home far k o (slice_index old n)) none (held n b)
      | inr x ↦ absurd (let t = x.0.2 in let no : None ≡ Some t.0 = sym none ∙ t.2 in cc)
    ])
  ]

  module _ (mid new : List ℕ) (odd : k % 2 ≡ 1)
      (rise : (i : ℕ) → (slice_index mid i ≡ slice_index old i)
      ⊎ ((j : ℕ) × LeadsTo leads home index position i j) × (slice_index mid i ≡ k + 2) × (slice_index old i ≡ 0))
      (done : (i j : ℕ) → j < size → slice_index old j ≡ k + 1 → LeadsTo leads home index position i j → slice_index mid i ≢ 0)
      (fall : (i : ℕ) → (slice_index new i ≡ slice_index mid i) ⊎ (slice_index mid i ≡ k + 2) × (slice_index new i ≡ 0))
      (lost : (i : ℕ) (p : P) → i < size → position i ≡ Some p → slice_index new i ≡ k + 2 → Mated leads mate p (k + 1))
      (kept : (i : ℕ) (p q : P) → position i ≡ Some p → leads p q → slice_index mid i ≡ k + 2 → Mated leads mate p (k + 1) → slice_index new i ≡ k + 2) where
    -- a cell that stays
    stays : (n : ℕ) → slice_index old n ≢ 0 → slice_index old n ≢ k + 2 → slice_index new n ≡ slice_index old n
    stays n z t = elim (rise n) [
      | inr y ↦ absurd (z y.2)
      | inl e ↦ elim (fall n) [ inl f ↦ f ∙ e | inr x ↦ absurd (t (sym e ∙ x.0)) ]
    ]

    -- the cell before
    was : (n : ℕ) → (slice_index new n ≡ slice_index old n)
        ⊎ ((slice_index old n ≡ 0) ⊎ (slice_index old n ≡ k + 2))
        × ((slice_index new n ≡ 0) ⊎ (slice_index new n ≡ k + 2))
    was n = elim (rise n) [
      | inl e ↦ elim (fall n) [ inl f ↦ inl (f ∙ e) | inr x ↦ inr (inr (sym e ∙ x.0), inl x.1) ]
      | inr y ↦ elim (fall n) [ inl f ↦ inr (inl y.2, inr (f ∙ y.1)) | inr x ↦ inr (inl y.2, inl x.1) ]
    ]

    module _ (n : ℕ) (p : P) (b : n < size) (e : position n ≡ Some p) where
      h : IsHeld leads mate home far k p (slice_index old n)
      h = held-at n p e

      -- a cell that is not set after the level was not set before, and is the same if it is above
      was-free : IsFree (k + 1) (slice_index new n) → IsFree k (slice_index old n)
      was-free (inl z) = elim (was n) [
        | inl same ↦ inl (sym same ∙ z)
        | inr x ↦ elim x.0 [ inl y ↦ inl y | inr y ↦ inr (omega (arith, y)) ]
      ]
      was-free (inr l) = elim (was n) [
        | inl same ↦ inr (omega (arith, same))
        | inr x ↦ elim x.0 [ inl y ↦ inl y | inr y ↦ inr (omega (arith, y)) ]
      ]

      was-above : k + 2 < slice_index new n → slice_index new n ≡ slice_index old n
      was-above l = elim (was n) [
        | inl same ↦ same
        | inr x ↦ absurd (elim x.1 [ inl y ↦ omega (arith, y) | inr y ↦ omega (arith, y) ])
      ]

      -- a cell above was no loss in k + 1 plies
      above-unmated : k + 2 < slice_index old n → Mated leads mate p (k + 1) → ⊥
      above-unmated l m = elim (even_or_odd (slice_index old n)) [
        | inl even ↦ Mates-Mated leads mate laws.stuck (slice_index old n - 1) (k + 1) p (h.wins (omega arith) even) m
        | inr o ↦ h.lasts (omega arith) o (Mated-le leads mate (k + 1) (slice_index old n - 2) p (omega arith) m)
      ]

      now-unmated : (k' : ℕ) → k ≡ suc k' → IsFree (k + 1) (slice_index new n) → Mated leads mate p (k + 1) → ⊥
      now-unmated k' ek free m = mated-next k' ek n p e (was-free free) (subst (Mated leads mate p) (add-one k) m) no_home no_out
        where
          -- a cell that is not 0 is the one before
          above : slice_index new n ≢ 0 → k + 2 < slice_index new n
          above z = elim free [ inl y ↦ absurd (z y) | inr l ↦ omega arith ]

          not_there : slice_index new n ≢ 0 → ⊥
          not_there z = above-unmated (let l = above z in omega (arith, was-above (above z))) m

          no_home : (j : ℕ) → j < size → slice_index old j ≡ k + 1 → LeadsTo leads home index position n j → ⊥
          no_home j l s t = not_there (elim (fall n) [
            | inl same ↦ (λ z. done n j l s t (sym same ∙ z))
            | inr x ↦ (
                let there = kept n p t.1 e (subst (λ (x : P). leads x t.1) (injective n t.0 p t.2 e) t.3) x.0 m in
                λ z. omega (arith, there, z))
          ])

          a_move : Mated leads mate p (suc k) → (q : P) × leads p q
          a_move (inl x) = absurd (h.unmated (was-free free) (Mated-le leads mate zero k p (omega arith) x))
          a_move (inr x) = x.0

          no_out : (slice_index old n % 2 ≡ 1) × (k + 2 ≤ slice_index old n) → ⊥
          no_out x = elim (equal_or_less (k + 2) (slice_index old n) x.1) [
            | inr l ↦ above-unmated (omega arith) m
            | inl s ↦ (
                let q = a_move (subst (Mated leads mate p) (add-one k) m) in
                let marked : slice_index mid n ≡ k + 2 = elim (rise n) [ inl f ↦ f ∙ sym s | inr y ↦ absurd (omega (arith, s, y.2)) ] in
                let is = kept n p q.0 e q.1 marked m in
                elim free [ inl z ↦ omega (arith, is, z) | inr l ↦ omega (arith, is) ])
          ]

      set-odd : slice_index new n ≢ 0 → slice_index new n ≤ k + 1 + 1 → IsGame leads mate p (value_of (slice_index new n))
      set-odd z l = elim (equal_or_less (slice_index new n) (k + 2) (omega arith)) [
        | inl is ↦ (
            let m = lost n p b e is in
            let free : IsFree k (slice_index old n) =
            elim (was n) [
              | inl same ↦ inr (omega (arith, is, same))
              | inr x ↦ elim x.0 [ inl y ↦ inl y | inr y ↦ inr (omega (arith, y)) ]
            ] in
            let v : value_of (slice_index new n) ≡ Loss (k + 1) =
            value_of-odd (slice_index new n) (omega (arith, is))
            ∙ ap Loss (let r : slice_index new n - 1 ≡ k + 1 = omega (arith, is) in r) in
            subst (IsGame leads mate p) (sym v) (lost-next p (slice_index old n) h free m))
        | inr less ↦ (
            let same : slice_index new n ≡ slice_index old n =
            elim (was n) [ inl s ↦ s | inr x ↦ absurd (elim x.1 [ inl y ↦ z y | inr y ↦ omega (arith, y) ]) ] in
            let is = h.set (λ y. z (same ∙ y)) (omega (arith, same)) in
            subst (λ (c : ℕ). IsGame leads mate p (value_of c)) (sym same) is)
      ]

      held-odd : (k' : ℕ) → k ≡ suc k' → IsHeld leads mate home far (k + 1) p (slice_index new n)
      held-odd k' ek = record {
        set = set-odd;
        unmating = λ free m. h.unmating (was-free free) (Mates-even leads mate k p odd (subst (Mates leads mate p) (add-one k) m));
        unmated = now-unmated k' ek;
        wins =
            λ l o. (let s = was-above (omega arith) in subst (λ (c : ℕ). Mates leads mate p (c - 1)) (sym s)
            (h.wins (omega (arith, s)) (omega (arith, s, o))));
        lasts =
            λ l o m. (let s = was-above (omega arith) in h.lasts (omega (arith, s)) (omega (arith, s, o))
            (subst (λ (c : ℕ). Mated leads mate p (c - 2)) s m));
        won =
            λ q j r l out w. (let x = h.won q j r l out w in let s = stays n x.1 (λ y. omega (arith, y, x.0)) in
            subst (λ (c : ℕ). (c % 2 ≡ 0) × (c ≢ 0) × (c ≤ j + 2)) (sym s) x);
        lost =
            λ q j m r l i out w y. (let x = h.lost q j m r (omega arith) i out w y in
            let s = stays n (omega (arith, x.1)) (omega (arith, x.1)) in subst (λ (c : ℕ). (c % 2 ≡ 1)
            × (j + 2 ≤ c)) (sym s) x);
      }

    -- a level of wins
    pub level-odd : AreBoundedCells leads mate home far (k + 1) position size new
    level-odd n b = elim (some_or_none (position n)) [
      | inl s ↦ subst (λ (o : Option P). IsHeldCell leads mate home far (k + 1) o (slice_index new n)) (sym s.1) (by_number k refl s.0 s.1)
      | inr none ↦ subst (λ (o : Option P). IsHeldCell leads mate home far (k + 1) o (slice_index new n)) (sym none) (
          let before : slice_index old n ≡ 0 = subst (λ (o : Option P). IsHeldCell leads mate home far k o (slice_index old n)) none (held n b) in
          nothing none before)
    ]
      where
        by_number : (i : ℕ) → k ≡ i → (p : P) → position n ≡ Some p → IsHeld leads mate home far (k + 1) p (slice_index new n)
        by_number zero ek p e = absurd (omega (arith, odd, ek))
        by_number (suc i) ek p e = held-odd n p b e i ek

        nothing : position n ≡ None → slice_index old n ≡ 0 → slice_index new n ≡ 0
        nothing none z = elim (rise n) [
          | inl e ↦ elim (fall n) [ inl f ↦ f ∙ (e ∙ z) | inr x ↦ absurd (omega (arith, x.0, e, z)) ]
          | inr y ↦ absurd (let t = y.0.1 in let no : None ≡ Some t.0 = sym none ∙ t.2 in cc)
        ]

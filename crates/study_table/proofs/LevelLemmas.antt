-- One level of a builder: from cells right below k plies to cells right below one more.
use Rattle.std.proofs.Common.{◌≡◌, ◌≢◌, ℕ, zero, suc, ◌-◌, ◌<◌, ◌≤◌, ◌⊎◌, inl, inr, sym, ◌∙◌, ap, subst}
use Rattle.std.proofs.Common.{refl, arith, List, slice_index, Option, Some, None, Bool, true}
use Rattle.study_values.specs.declared.value.Value.{Value}
use Rattle.study_values.specs.declared.value.Value.TheVariants.{Win, Loss, Draw}
use Rattle.study_table.specs.Forced.{IsGame, GivesValue, IsRightBelow}
use Rattle.study_values.specs.Cells.{distance_of, value_of, label_of}
use Rattle.study_table.specs.Right.{IsRightCell, IsRightOutside, IsOtherCell, IsRightBelowCell, AreRightBelow, AreNear, HasFar}
use Rattle.study_table.specs.Class.{IsClass}
use Rattle.study_table.proofs.ForcedLemmas.{IsGame-below, IsGame-from_near, Gives-below}
use Rattle.study_table.proofs.AlongLemmas.{IsRightBelow-along}
use Rattle.study_table.proofs.ParityLemmas.{value_of-not_draw, distance_of-value_of}
use Rattle.study_table.proofs.ClassLemmas.{true_or_false, some_or_none, image_keeps, label-home, label-outside}

pub zero_or_not : (c : ℕ) → (c ≡ zero) ⊎ (c ≢ zero)
zero_or_not zero = inl refl
zero_or_not (suc c) = inr (λ e. omega arith)

pub distance-byte : (c : ℕ) → c ≤ 255 → distance_of (value_of c) < 255
distance-byte c h = elim (zero_or_not c) [
  | inl e ↦ (let d : distance_of (value_of c) ≡ 0 = ap (λ (n : ℕ). distance_of (value_of n)) e in omega arith)
  | inr e ↦ (let d = distance_of-value_of c e in let pos : 0 < c = omega arith in omega arith)
]

module _ {P : Type 0} (leads : P → P → Type 0) (mate : P → Type 0) where
  -- a value from labels of small distances has at most one ply more
  Gives-distance : (labels : P → Value) (p : P) (b : ℕ) → ((q : P) → leads p q → distance_of (labels q) < b)
      → (w : Value) → GivesValue leads mate labels p w → distance_of w ≤ b
  Gives-distance labels p b near (Win zero) g = omega arith
  Gives-distance labels p b near (Win (suc n)) g = let h = near g.to g.move in let e : distance_of (labels g.to) ≡ n = ap distance_of g.is in omega arith
  Gives-distance labels p b near (Loss zero) g = omega arith
  Gives-distance labels p b near (Loss (suc n)) g = let h = near g.to g.move in let e : distance_of (labels g.to) ≡ n = ap distance_of g.is in omega arith
  Gives-distance labels p b near Draw g = omega arith

  -- a value that is right below more plies than the game's is the game's
  below-unique : (k : ℕ) (p : P) (w v : Value) → v ≢ Draw → distance_of v < k → IsRightBelow leads mate k p w → IsGame leads mate p v → w ≡ v
  below-unique k p w (Win n) mated l is game =
      let x = is.wins n l game.forced in
      let y = is.won x.0 (omega (arith, x.2)) x.1 in
      let same : x.0 ≡ n = omega (arith, x.2, game.least x.0 y) in
      x.1 ∙ ap Win same
  below-unique k p w (Loss n) mated l is game =
      let x = is.loses n l game.forced in
      let y = is.lost x.0 (omega (arith, x.2)) x.1 in
      let same : x.0 ≡ n = omega (arith, x.2, game.least x.0 y) in
      x.1 ∙ ap Loss same
  below-unique k p w Draw mated l is game = absurd (mated refl)

module _ {P : Type 0} {leads : P → P → Type 0} {mate : P → Type 0} {known : P → Type 0} {home : P → Bool} {index : P
    → ℕ} {outside : P → Value} {position : ℕ → Option P} {size : ℕ} {image : P → P → Type 0}
    (laws : IsClass leads mate known home index outside position size image) (cells : List ℕ) (outer : IsRightOutside leads mate known home outside) where
  abbrev Labels : P → Value
  Labels = label_of home index outside cells

  -- cells right below k plies label known positions rightly below k plies
  pub labels-below : (k : ℕ) → AreRightBelow leads mate k position size cells → (p : P) → known p → IsRightBelow leads mate k p (Labels p)
  labels-below k right p kn = elim (true_or_false (home p)) [
    | inl e ↦
        let n = laws.numbered p kn e in
        let cell = slice_index cells (index p) in
        let at = subst (λ (o : Option P). IsRightBelowCell leads mate k o cell) n.1 (right (index p) (laws.below (index p) n.0 n.1)) in
        subst (IsRightBelow leads mate k p) (sym (label-home laws cells p e))
        (IsRightBelow-along leads mate image (image_keeps laws cells) k n.0 p (value_of cell) n.2 at)
    | inr e ↦ subst (IsRightBelow leads mate k p) (sym (label-outside laws cells p e)) (IsGame-below leads mate laws.stuck k p (outside p) (outer p kn e))
  ]

  -- and give values that are right below one more
  pub given-below : (k : ℕ) → AreRightBelow leads mate k position size cells → (p : P) (v : Value) → known p
      → home p ≡ true → GivesValue leads mate Labels p v → IsRightBelow leads mate (suc k) p v
  given-below k right p v kn e g = Gives-below leads mate laws.stuck Labels k p (λ q l. labels-below k right q (laws.closed p q kn e l)) v g

  -- a cell that has a mate in fewer than k plies is right
  pub cell-decided : (k n c : ℕ) → c ≢ 0 → c ≤ k → IsRightBelowCell leads mate k (position n) c → IsRightCell leads mate (position n) c
  cell-decided k n c nonzero small h = by_position (position n) h
    where
      by_position : (o : Option P) → IsRightBelowCell leads mate k o c → IsRightCell leads mate o c
      by_position None x = x
      by_position (Some p) x = IsGame-from_near leads mate laws.stuck k p (value_of c) (value_of-not_draw c nonzero)
          (let d = distance_of-value_of c nonzero in let pos : 0 < c = omega arith in omega arith) x

  -- if a far value is given at a cell of 0, the position is mate in that many plies
  pub far-witness : (k : ℕ) → AreRightBelow leads mate k position size cells → (p : P) (v : Value) → known p
      → home p ≡ true → GivesValue leads mate Labels p v → v ≢ Draw → distance_of v ≤ k → IsGame leads mate p v
  far-witness k right p v kn e g mated near = IsGame-from_near leads mate laws.stuck (suc k) p v mated (omega arith) (given-below k right p v kn e g)

  labels-near : (p : P) → known p → distance_of (Labels p) < 255 ⊎ (home p ≡ true)
  labels-near p kn = elim (true_or_false (home p)) [
    | inl e ↦ inr e
    | inr e ↦ inl (let h = laws.near_outside p kn e in let d : distance_of (Labels p) ≡ distance_of (outside p) = ap
        distance_of (label-outside laws cells p e) in omega arith)
  ]

  label-near : AreNear 255 size cells → (p : P) → known p → distance_of (Labels p) < 255
  label-near bytes p kn = elim (labels-near p kn) [
    | inl h ↦ h
    | inr e ↦
        let d : distance_of (Labels p) ≡ distance_of (value_of (slice_index cells (index p))) = ap distance_of (label-home laws cells p e) in
        let m = laws.numbered p kn e in
        let b = bytes (index p) (laws.below (index p) m.0 m.1) in
        let l = distance-byte (slice_index cells (index p)) b in
        omega arith
  ]

  -- after the last level, a cell that differs from the given value has a position of a greater distance
  pub other-far : AreNear 255 size cells → AreRightBelow leads mate 255 position size cells → (n : ℕ) → n < size
      → IsOtherCell leads mate Labels (position n) (slice_index cells n) → HasFar leads mate known home
  other-far bytes right n b h = elim (some_or_none (position n)) [
    | inr e ↦
        let cell = slice_index cells n in
        let w = subst (λ (o : Option P). IsOtherCell leads mate Labels o cell) e h in
        absurd (w (subst (λ (o : Option P). IsRightBelowCell leads mate 255 o cell) e (right n b)))
    | inl s ↦
        let cell = slice_index cells n in
        let p = s.0 in
        let d = laws.decoded n p s.1 in
        let w = subst (λ (o : Option P). IsOtherCell leads mate Labels o cell) s.1 h in
        let is = subst (λ (o : Option P). IsRightBelowCell leads mate 255 o cell) s.1 (right n b) in
        let near = Gives-distance leads mate Labels p 255 (λ q l. label-near bytes q (laws.closed p q d.0 d.1 l)) w.0 w.1 in
        elim (zero_or_not cell) [
          | inl z ↦ from_zero p w.0 d.0 d.1 w.1 (λ e. w.2 (e ∙ ap value_of (sym z))) near (subst (λ (c : ℕ). IsRightBelow leads mate 255 p (value_of c)) z is)
          | inr z ↦
              let game = subst (λ (o : Option P). IsRightCell leads mate o cell) s.1 (cell-decided 255 n cell z (bytes n b) (right n b)) in
              let small : distance_of (value_of cell) ≡ cell - 1 = distance_of-value_of cell z in
              let byte : cell ≤ 255 = bytes n b in
              absurd
              (w.2 (below-unique leads mate 256 p w.0 (value_of cell) (value_of-not_draw cell z) (omega arith)
              (given-below 255 right p w.0 d.0 d.1 w.1) game))
        ]
  ]
    where
      from_zero : (p : P) (w : Value) → known p → home p ≡ true → GivesValue leads mate Labels p w → w ≢ Draw
          → distance_of w ≤ 255 → IsRightBelow leads mate 255 p Draw → HasFar leads mate known home
      from_zero p w kn e g mated near is =
          let game = far-witness 255 right p w kn e g mated near in
          (p, kn, e, (w, game, beyond (below_or_not (distance_of w)) game))
        where
          below_or_not : (m : ℕ) → (m < 255) ⊎ (254 < m)
          below_or_not m = grind arith

          beyond : (distance_of w < 255) ⊎ (254 < distance_of w) → IsGame leads mate p w → 254 < distance_of w
          beyond (inl l) game = absurd (mated (sym (below-unique leads mate 255 p Draw w mated l is game)))
          beyond (inr l) game = l

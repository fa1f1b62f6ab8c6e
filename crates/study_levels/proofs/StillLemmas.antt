-- Cells that have no mate to come stay as they are at every later level, and so are right.
use Rattle.std.proofs.Common.{◌≡◌, ℕ, zero, suc, ◌+◌, ◌-◌, ◌<◌, ◌≤◌, inl, inr, sym, subst, refl}
use Rattle.std.proofs.Common.{arith, List, slice_index, Option, Some, None, Bool, true, false}
use Rattle.study_values.specs.declared.value.Value.{Value}
use Rattle.study_table.specs.Forced.{IsGame, IsRightBelow}
use Rattle.study_values.specs.Cells.{value_of}
use Rattle.study_table.specs.Right.{IsRightOutside, IsRightCell, AreRight, IsRightBelowCell, AreRightBelow}
use Rattle.study_table.specs.Class.{IsClass}
use Rattle.study_levels.specs.Propagation.{IsHeld, IsHeldCell, AreBoundedCells}
use Rattle.study_table.proofs.ForcedLemmas.{Mates-le, IsGame-below}
use Rattle.study_table.proofs.ClassLemmas.{some_or_none}
use Rattle.study_table.proofs.LevelLemmas.{zero_or_not}
use Rattle.study_levels.proofs.HeldLemmas.{even_or_odd}
use Rattle.study_levels.proofs.NextLemmas.{Mated-le, level-even, level-odd}

module _ {P : Type 0} {leads : P → P → Type 0} {mate : P → Type 0} {known : P → Type 0} {home : P → Bool} {index : P
    → ℕ} {outside : P → Value} {position : ℕ → Option P} {size : ℕ} {image : P → P → Type 0}
    (laws : IsClass leads mate known home index outside position size image)
    (outer : IsRightOutside leads mate known home outside) (far : Bool) (cells : List ℕ) where
  still-next : (k : ℕ) → (far ≡ true → k < 254) → ((i : ℕ) → i < size → slice_index cells i ≤ k)
      → AreBoundedCells leads mate home far k position size cells → AreBoundedCells leads mate home far (k + 1) position size cells
  still-next k reach near held = elim (even_or_odd k) [
    | inl even ↦ level-even laws outer far k reach cells held cells even (λ i. inl refl) (λ i j b s t. absurd (let l = near j b in omega (arith, s)))
    | inr odd ↦ level-odd laws outer far k reach cells held cells cells odd (λ i. inl refl)
        (λ i j b s t. absurd (let l = near j b in omega (arith, s)))
        (λ i. inl refl)
        (λ i p b e s. absurd (let l = near i b in omega (arith, s)))
        (λ i p q e l s m. s)
  ]

  pub still-all : (k i : ℕ) → (far ≡ true → k + i ≤ 254) → ((j : ℕ) → j < size → slice_index cells j ≤ k)
      → AreBoundedCells leads mate home far k position size cells → AreBoundedCells leads mate home far (k + i) position size cells
  still-all k zero reach near held = subst (λ (n : ℕ). AreBoundedCells leads mate home far n position size cells) (let e : k ≡ k + 0 = omega arith in e) held
  still-all k (suc i) reach near held =
      subst (λ (n : ℕ). AreBoundedCells leads mate home far n position size cells) (let e : k + i + 1 ≡ k + suc i = omega arith in e)
      (still-next (k + i) (λ f. let l = reach f in omega arith) (λ j b. let l = near j b in omega arith)
      (still-all k i (λ f. let l = reach f in omega arith) near held))

  -- up to the last level
  pub still-last : (k : ℕ) → k ≤ 254 → ((j : ℕ) → j < size → slice_index cells j ≤ k)
      → AreBoundedCells leads mate home far k position size cells → AreBoundedCells leads mate home far 254 position size cells
  still-last k l near held =
      let e : k + (254 - k) ≡ 254 = omega arith in
      subst (λ (n : ℕ). AreBoundedCells leads mate home far n position size cells) e (still-all k (254 - k) (λ f. omega arith) near held)

  -- after the last level no cell is wrong about mates in fewer than 255 plies
  pub held-below : ((j : ℕ) → j < size → slice_index cells j ≤ 255)
      → AreBoundedCells leads mate home far 254 position size cells → AreRightBelow leads mate 255 position size cells
  held-below bytes held n b = by_position (position n) (held n b) (bytes n b)
    where
      c : ℕ
      c = slice_index cells n

      by_position : (o : Option P) → IsHeldCell leads mate home far 254 o c → c ≤ 255 → IsRightBelowCell leads mate 255 o c
      by_position None h l = h
      by_position (Some p) h l = elim (zero_or_not c) [
        | inr z ↦ IsGame-below leads mate laws.stuck 255 p (value_of c) (h.set z l)
        | inl z ↦ subst (λ (i : ℕ). IsRightBelow leads mate 255 p (value_of i)) (sym z) (record {
          wins = λ m i x. absurd (h.unmating (inl z) (Mates-le leads mate m 254 p (omega arith) x));
          loses = λ m i x. absurd (h.unmated (inl z) (Mated-le leads mate m 254 p (omega arith) x));
          won = λ m i e. absurd (let no : ⊥ = cc in no);
          lost = λ m i e. absurd (let no : ⊥ = cc in no);
        })
      ]

module _ {P : Type 0} {leads : P → P → Type 0} {mate : P → Type 0} {known : P → Type 0} {home : P → Bool} {index : P
    → ℕ} {outside : P → Value} {position : ℕ → Option P} {size : ℕ} {image : P → P → Type 0}
    (laws : IsClass leads mate known home index outside position size image) (outer : IsRightOutside leads mate known home outside) (cells : List ℕ) where
  -- if every mate can be encoded, they are right
  pub still-right : (k : ℕ) → ((j : ℕ) → j < size → slice_index cells j ≤ k)
      → AreBoundedCells leads mate home false k position size cells → AreRight leads mate position size cells
  still-right k near held n b = elim (some_or_none (position n)) [
    | inr e ↦ subst (λ (o : Option P). IsRightCell leads mate o (slice_index cells n)) (sym e)
        (subst (λ (o : Option P). IsHeldCell leads mate home false k o (slice_index cells n)) e (held n b))
    | inl s ↦ subst (λ (o : Option P). IsRightCell leads mate o (slice_index cells n)) (sym s.1) (elim (zero_or_not (slice_index cells n)) [
      | inr z ↦ (at k held s.0 s.1).set z (let l = near n b in omega arith)
      | inl z ↦ subst (λ (i : ℕ). IsGame leads mate s.0 (value_of i)) (sym z) (record {
        no_win = λ m x. (at (k + m) (later m) s.0 s.1).unmating (inl z) (Mates-le leads mate m (k + m) s.0 (omega arith) x);
        no_loss = λ m x. (at (k + m) (later m) s.0 s.1).unmated (inl z) (Mated-le leads mate m (k + m) s.0 (omega arith) x);
      })
    ])
  ]
    where
      later : (m : ℕ) → AreBoundedCells leads mate home false (k + m) position size cells
      later m = still-all laws outer false cells k m (λ f. absurd (let no : false ≡ true = f in cc)) near held

      at : (i : ℕ) → AreBoundedCells leads mate home false i position size cells → (p : P) → position n ≡ Some p
          → IsHeld leads mate home false i p (slice_index cells n)
      at i hold p e = subst (λ (o : Option P). IsHeldCell leads mate home false i o (slice_index cells n)) e (hold n b)

-- The knowledge from mates, and from the moves out of the class, before the levels.
use Rattle.std.proofs.Common.{◌≡◌, ◌≢◌, ℕ, zero, suc, ◌+◌, ◌-◌, ◌%◌, ◌<◌, ◌≤◌, ◌⊎◌, inl, inr, sym, subst, refl, arith, Option, Some, None, Bool, true, false}
use Rattle.study_values.specs.declared.value.Value.{Value}
use Rattle.study_values.specs.declared.value.Value.TheVariants.{Win, Loss, Draw}
use Rattle.study_table.specs.Forced.{Mated, Mates, IsGame, IsWin, IsLoss, GivesOutside}
use Rattle.study_table.specs.Right.{IsRightOutside}
use Rattle.study_table.specs.Class.{IsClass}
use Rattle.study_levels.specs.Propagation.{IsInitial, IsHeld, IsHeldCell}
use Rattle.study_table.proofs.ForcedLemmas.{Mates-Mated, IsGame-unique}
use Rattle.study_table.proofs.ParityLemmas.{odd-win, even-loss}

-- the meaning of a cell if no mate is too far for one implies its meaning if one may be
pub held-more : {P : Type 0} (leads : P → P → Type 0) (mate : P → Type 0) (home : P → Bool) {far more : Bool} → (far ≡ true → more ≡ true)
    → (o : Option P) (k c : ℕ) → IsHeldCell leads mate home far k o c → IsHeldCell leads mate home more k o c
held-more leads mate home wider None k c h = h
held-more leads mate home wider (Some p) k c h = record {
  set = h.set;
  unmating = h.unmating;
  unmated = h.unmated;
  wins = h.wins;
  lasts = h.lasts;
  won = λ q j f l. h.won q j (λ e. f (wider e)) l;
  lost = λ q j m f b l. h.lost q j m (λ e. f (wider e)) b l;
}

module _ {P : Type 0} {leads : P → P → Type 0} {mate : P → Type 0} {known : P → Type 0} {home : P → Bool} {index : P
    → ℕ} {outside : P → Value} {position : ℕ → Option P} {size : ℕ} {image : P → P → Type 0}
    (laws : IsClass leads mate known home index outside position size image) (outer : IsRightOutside leads mate known home outside) where
  pub held-mate : (p : P) → mate p → IsHeld leads mate home false 0 p 1
  held-mate p m = record {
    set = λ z l. record { forced = m; least = λ n x. omega arith };
    unmating = λ free x. x;
    unmated = λ free x. elim free [ inl e ↦ omega (arith, e) | inr l ↦ omega arith ];
    wins = λ l. absurd (omega arith);
    lasts = λ l. absurd (omega arith);
    won = λ q j r l. absurd (laws.stuck p q m l);
    lost = λ q j i r b l. absurd (laws.stuck p q m l);
  }

  module _ (p : P) (kp : known p) (hp : home p ≡ true) (unmated : mate p → ⊥) where
    is-outside : (q : P) → leads p q → home q ≡ false → IsGame leads mate q (outside q)
    is-outside q l out = outer q (laws.closed p q kp hp l) out

    -- a position mated in some number of plies has only moves to won positions
    all-won : (m : ℕ) → Mated leads mate p m → (q : P) → leads p q → (n : ℕ) × Mates leads mate q n
    all-won zero x q l = absurd (unmated x)
    all-won (suc m) (inl x) q l = absurd (unmated x)
    all-won (suc m) (inr x) q l = (m, x.1 q l)

    -- the nearest loss out of the class
    held-win : (n c : ℕ) (far : Bool) → GivesOutside leads home outside p (Win (suc n)) → (c ≡ n + 2)
        × (far ≡ false) ⊎ (254 ≤ n) × (c ≡ 0) × (far ≡ true) → IsHeld leads mate home far 0 p c
    held-win n c far g how = record {
      set = λ z l. absurd (elim how [ inl h ↦ omega (arith, h.0) | inr h ↦ z h.1 ]);
      unmating = λ free x. x;
      unmated = λ free x. unmated x;
      wins = λ l e. elim how [
        | inl h ↦ (let s : suc n ≡ c - 1 = omega (arith, h.0) in subst (Mates leads mate p) s wins)
        | inr h ↦ absurd (omega (arith, h.1))
      ];
      lasts = λ l e. absurd (elim how [ inl h ↦ omega (arith, h.0, e, even) | inr h ↦ omega (arith, h.1) ]);
      won = λ q j r l out x. by_value q j r l out x (outside q) refl (is-outside q l out);
      lost = λ q j m r b l out w x. absurd (Mates-Mated leads mate laws.stuck (suc n) m p wins x);
    }
      where
        is : IsLoss leads mate g.to n
        is = subst (IsGame leads mate g.to) g.is (is-outside g.to g.move.0 g.move.1)

        even : n % 2 ≡ 0
        even = even-loss leads mate n g.to is

        wins : Mates leads mate p (suc n)
        wins = (g.to, g.move.0, is.forced)

        by_value : (q : P) (j : ℕ) → (far ≡ true → j < 254) → leads p q → home q ≡ false → Mated leads mate q j
            → (v : Value) → outside q ≡ v → IsGame leads mate q v → (c % 2 ≡ 0) × (c ≢ 0) × (c ≤ j + 2)
        by_value q j r l out x (Win i) e h = absurd (Mates-Mated leads mate laws.stuck i j q h.forced x)
        by_value q j r l out x (Loss i) e h =
            let near : n ≤ i = g.least q i (l, out) e in
            let least : i ≤ j = h.least j x in
            elim how [
              | inl y ↦ (omega (arith, y.0, even), omega (arith, y.0), omega (arith, y.0))
              | inr y ↦ absurd (let b = r y.2 in let b' = y.0 in omega arith)
            ]
        by_value q j r l out x Draw e h = absurd (h.no_loss j x)

    -- no loss out of the class: only wins, and the farthest
    held-loss : (n c : ℕ) (far : Bool) → GivesOutside leads home outside p (Loss (suc n)) → (c ≡ n + 2) ⊎ (n ≡ 254) × (c ≡ 0) → IsHeld leads mate home far 0 p c
    held-loss n c far g how = record {
      set = λ z l. absurd (elim how [ inl h ↦ omega (arith, h) | inr h ↦ z h.1 ]);
      unmating = λ free x. x;
      unmated = λ free x. unmated x;
      wins = λ l e. absurd (elim how [ inl h ↦ omega (arith, h, e, odd) | inr h ↦ omega (arith, h.1) ]);
      lasts =
          λ l e x. elim how [
            | inl h ↦ sooner n refl (subst (Mated leads mate p) (let s : c - 2 ≡ n = omega (arith, h) in s) x)
            | inr h ↦ omega (arith, h.1)
          ];
      won =
          λ q j r l out x. absurd (let e = g.each q (l, out) in Mates-Mated leads mate laws.stuck e.0 j q
          (subst (IsGame leads mate q) e.1 (is-outside q l out)).forced x);
      lost = λ q j m r b l out w x. (
          let e = g.each q (l, out) in
          let same = IsGame-unique leads mate laws.stuck q (Win j) (Win e.0) w (subst (IsGame leads mate q) e.1 (is-outside q l out)) in
          let js : j ≡ e.0 = cc in
          elim how [ inl h ↦ (omega (arith, h, odd), omega (arith, h, js, e.2)) | inr h ↦ absurd (omega (arith, h.0, odd)) ]);
    }
      where
        is : IsWin leads mate g.to n
        is = subst (IsGame leads mate g.to) g.is (is-outside g.to g.move.0 g.move.1)

        odd : n % 2 ≡ 1
        odd = odd-win leads mate n g.to is

        sooner : (m : ℕ) → n ≡ m → Mated leads mate p n → ⊥
        sooner zero e x = omega (arith, odd, e)
        sooner (suc m) e x = by_cases (subst (Mated leads mate p) e x)
          where
            by_cases : Mated leads mate p (suc m) → ⊥
            by_cases (inl y) = unmated y
            by_cases (inr y) = let b : n ≤ m = is.least m (y.1 g.to g.move.0) in omega (arith, e)

    pub held-draw : (far : Bool) → GivesOutside leads home outside p Draw → IsHeld leads mate home far 0 p 0
    held-draw far g = record {
      set = λ z l. absurd (z refl);
      unmating = λ free x. x;
      unmated = λ free x. unmated x;
      wins = λ l. absurd (omega arith);
      lasts = λ l. absurd (omega arith);
      won = λ q j r l out x. absurd (no_loss q j l out x (outside q) refl (is-outside q l out));
      lost = λ q j m r b l out w x. absurd (elim g.holds [
        | inl h ↦ (let y = all-won m x h.0 h.1.0 in (subst (IsGame leads mate h.0) h.2 (is-outside h.0 h.1.0 h.1.1)).no_win y.0 y.1)
        | inr h ↦ h.1 q (l, out)
      ]);
    }
      where
        no_loss : (q : P) (j : ℕ) → leads p q → home q ≡ false → Mated leads mate q j → (v : Value) → outside q ≡ v → IsGame leads mate q v → ⊥
        no_loss q j l out x (Win i) e h = Mates-Mated leads mate laws.stuck i j q h.forced x
        no_loss q j l out x (Loss i) e h = g.no_loss q i (l, out) e
        no_loss q j l out x Draw e h = h.no_loss j x

    pub held-first : (v : Value) (c : ℕ) (far : Bool) → GivesOutside leads home outside p v → IsInitial v c far → IsHeld leads mate home far 0 p c
    held-first (Win zero) c far g f = absurd g
    held-first (Win (suc n)) c far g (inl f) = absurd (let e : Win (suc n) ≡ Draw = f.0 in let no : ⊥ = cc in no)
    held-first (Win (suc n)) c far g (inr (inl f)) = held-win n c far g (inl (omega (arith, f.2), f.3))
    held-first (Win (suc n)) c far g (inr (inr f)) = held-win n c far g (inr (omega (arith, f.1), f.2, f.3))
    held-first (Loss zero) c far g f = absurd g
    held-first (Loss (suc n)) c far g (inl f) = absurd (let e : Loss (suc n) ≡ Draw = f.0 in let no : ⊥ = cc in no)
    held-first (Loss (suc n)) c far g (inr (inl f)) = held-loss n c far g (inl (omega (arith, f.2)))
    held-first (Loss (suc n)) c far g (inr (inr f)) = held-loss n c far g (inr (omega (arith, f.1), f.2))
    held-first Draw c far g (inl f) = subst (λ (x : ℕ). IsHeld leads mate home far 0 p x) (sym f.1) (held-draw far g)
    held-first Draw c far g (inr (inl f)) = absurd (f.0 refl)
    held-first Draw c far g (inr (inr f)) = absurd (f.0 refl)

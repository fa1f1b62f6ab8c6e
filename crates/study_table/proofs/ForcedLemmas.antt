-- Consequences of the definitions of specs/Forced.antt, for any moves.
use Rattle.std.proofs.Common.{◌≡◌, ℕ, zero, suc, ◌<◌, ◌≤◌, ◌⊎◌, inl, inr, arith, subst, refl, ap}
use Rattle.study_values.specs.declared.value.Value.{Value}
use Rattle.study_values.specs.declared.value.Value.TheVariants.{Win, Loss, Draw}
use Rattle.study_table.specs.Forced.{Mated, Mates, IsGame, HasLoss, HasOnlyWins, HasDraw, GivesValue, IsRightBelow}
use Rattle.study_values.specs.Cells.{distance_of}

at_most_suc : (n m : ℕ) → n ≤ suc m → (n ≤ m) ⊎ (n ≡ suc m)
at_most_suc n m h = grind arith

below_or : (n k : ℕ) → (n < k) ⊎ (k ≤ n)
below_or n k = grind arith

same_number : (n m : ℕ) → n ≤ m → m ≤ n → n ≡ m
same_number n m h k = omega arith

module _ {P : Type 0} (leads : P → P → Type 0) (mate : P → Type 0) where
  mutual
    -- more plies do no harm
    pub Mated-suc : (n : ℕ) (p : P) → Mated leads mate p n → Mated leads mate p (suc n)
    Mated-suc zero p h = inl h
    Mated-suc (suc n) p (inl h) = inl h
    Mated-suc (suc n) p (inr h) = inr (h.0, λ q l. Mates-suc n q (h.1 q l))

    pub Mates-suc : (n : ℕ) (p : P) → Mates leads mate p n → Mates leads mate p (suc n)
    Mates-suc zero p h = absurd h
    Mates-suc (suc n) p h = (h.0, h.1, Mated-suc n h.0 h.2)

  pub Mates-le : (n m : ℕ) (p : P) → n ≤ m → Mates leads mate p n → Mates leads mate p m
  Mates-le n zero p l h = subst (Mates leads mate p) (same_number n zero l (omega arith)) h
  Mates-le n (suc m) p l h = elim (at_most_suc n m l) [
    | inl k ↦ Mates-suc m p (Mates-le n m p k h)
    | inr e ↦ subst (Mates leads mate p) e h
  ]

module _ {P : Type 0} (leads : P → P → Type 0) (mate : P → Type 0) (stuck : (p q : P) → mate p → leads p q → ⊥) where
  mutual
    -- at most one side forces mate
    pub Mates-Mated : (n m : ℕ) (p : P) → Mates leads mate p n → Mated leads mate p m → ⊥
    Mates-Mated zero m p h k = h
    Mates-Mated (suc n) zero p h k = stuck p h.0 k h.1
    Mates-Mated (suc n) (suc m) p h (inl k) = stuck p h.0 k h.1
    Mates-Mated (suc n) (suc m) p h (inr k) = Mated-Mates n m h.0 h.2 (k.1 h.0 h.1)

    pub Mated-Mates : (n m : ℕ) (p : P) → Mated leads mate p n → Mates leads mate p m → ⊥
    Mated-Mates n zero p h k = k
    Mated-Mates zero (suc m) p h k = stuck p k.0 h k.1
    Mated-Mates (suc n) (suc m) p (inl h) k = stuck p k.0 h k.1
    Mated-Mates (suc n) (suc m) p (inr h) k = Mates-Mated n m k.0 (h.1 k.0 k.1) k.2

  -- a position has at most one value
  pub IsGame-unique : (p : P) (v w : Value) → IsGame leads mate p v → IsGame leads mate p w → v ≡ w
  IsGame-unique p (Win n) (Win m) h k = ap Win (same_number n m (h.least m k.forced) (k.least n h.forced))
  IsGame-unique p (Win n) (Loss m) h k = absurd (Mates-Mated n m p h.forced k.forced)
  IsGame-unique p (Win n) Draw h k = absurd (k.no_win n h.forced)
  IsGame-unique p (Loss n) (Win m) h k = absurd (Mates-Mated m n p k.forced h.forced)
  IsGame-unique p (Loss n) (Loss m) h k = ap Loss (same_number n m (h.least m k.forced) (k.least n h.forced))
  IsGame-unique p (Loss n) Draw h k = absurd (k.no_loss n h.forced)
  IsGame-unique p Draw (Win m) h k = absurd (h.no_win m k.forced)
  IsGame-unique p Draw (Loss m) h k = absurd (h.no_loss m k.forced)
  IsGame-unique p Draw Draw h k = refl

  -- the game's value is right below any number of plies
  pub IsGame-below : (k : ℕ) (p : P) (v : Value) → IsGame leads mate p v → IsRightBelow leads mate k p v
  IsGame-below k p (Win n) h = record {
    wins = λ m l x. (n, refl, h.least m x);
    loses = λ m l x. absurd (Mates-Mated n m p h.forced x);
    won = λ m l e. subst (Mates leads mate p) (let e' : n ≡ m = cc in e') h.forced;
    lost = λ m l e. absurd (let e' : ⊥ = cc in e');
  }
  IsGame-below k p (Loss n) h = record {
    wins = λ m l x. absurd (Mates-Mated m n p x h.forced);
    loses = λ m l x. (n, refl, h.least m x);
    won = λ m l e. absurd (let e' : ⊥ = cc in e');
    lost = λ m l e. subst (Mated leads mate p) (let e' : n ≡ m = cc in e') h.forced;
  }
  IsGame-below k p Draw h = record {
    wins = λ m l x. absurd (h.no_win m x);
    loses = λ m l x. absurd (h.no_loss m x);
    won = λ m l e. absurd (let e' : ⊥ = cc in e');
    lost = λ m l e. absurd (let e' : ⊥ = cc in e');
  }

  -- if labels are right below k plies after each move, the value that they give is right below one more
  module _ (labels : P → Value) (k : ℕ) (p : P) (after : (q : P) → leads p q → IsRightBelow leads mate k q (labels q)) where
    -- if a move leads to a position that is not won, the mover is not mated
    not_mated : (q : P) → leads p q → ((n : ℕ) → labels q ≡ Win n → ⊥) → (m : ℕ) → m < suc k → Mated leads mate p m → ⊥
    not_mated q l unwon zero b x = stuck p q x l
    not_mated q l unwon (suc m) b (inl x) = stuck p q x l
    not_mated q l unwon (suc m) b (inr x) =
        let w = (after q l).wins m (omega arith) (x.1 q l) in unwon w.0 w.1

    -- if no move leads to a lost position, the mover does not mate
    not_mating : ((q : P) (n : ℕ) → leads p q → labels q ≡ Loss n → ⊥) → (m : ℕ) → m < suc k → Mates leads mate p m → ⊥
    not_mating unlost zero b x = x
    not_mating unlost (suc m) b x =
        let w = (after x.0 x.1).loses m (omega arith) x.2 in unlost x.0 w.0 x.1 w.1

    wins_by : (n : ℕ) → HasLoss leads labels p n → (m : ℕ) → m < suc k → Mates leads mate p m → suc n ≤ m
    wins_by n g zero b x = absurd x
    wins_by n g (suc m) b x =
        let w = (after x.0 x.1).loses m (omega arith) x.2 in
        let least : n ≤ w.0 = g.least x.0 w.0 x.1 w.1 in
        omega (arith, w.2)

    loses_by : (n : ℕ) → HasOnlyWins leads labels p n → (m : ℕ) → m < suc k → Mated leads mate p m → suc n ≤ m
    loses_by n g zero b x = absurd (stuck p g.to x g.move)
    loses_by n g (suc m) b (inl x) = absurd (stuck p g.to x g.move)
    loses_by n g (suc m) b (inr x) =
        let w = (after g.to g.move).wins m (omega arith) (x.1 g.to g.move) in
        let is : labels g.to ≡ Win n = g.is in
        let is' : labels g.to ≡ Win w.0 = w.1 in
        let same : n ≡ w.0 = cc in
        omega (arith, w.2)

    drawn_by : HasDraw leads mate labels p → (m : ℕ) → m < suc k → Mated leads mate p m → ⊥
    drawn_by g m b x = elim g.holds [
      | inl h ↦ not_mated h.0 h.1 (λ n e. let is : labels h.0 ≡ Draw = h.2 in cc) m b x
      | inr h ↦ stale h.0 h.1 m x
    ]
      where
        stale : (mate p → ⊥) → ((q : P) → leads p q → ⊥) → (m : ℕ) → Mated leads mate p m → ⊥
        stale unmated none zero y = unmated y
        stale unmated none (suc m) (inl y) = unmated y
        stale unmated none (suc m) (inr y) = none y.0.0 y.0.1

    pub Gives-below : (w : Value) → GivesValue leads mate labels p w → IsRightBelow leads mate (suc k) p w
    Gives-below (Win zero) g = absurd g
    Gives-below (Win (suc n)) g = record {
      wins = λ m b x. (suc n, refl, wins_by n g m b x);
      loses = λ m b x. absurd (not_mated g.to g.move (λ i e. let is : labels g.to ≡ Loss n = g.is in cc) m b x);
      won = λ m b e.
          let same : suc n ≡ m = cc in
          let x : Mates leads mate p (suc n) = (g.to, g.move, (after g.to g.move).lost n (omega arith) g.is) in
          subst (Mates leads mate p) same x;
      lost = λ m b e. absurd (let no : ⊥ = cc in no);
    }
    Gives-below (Loss zero) g = record {
      wins = λ m b x. absurd (not_mating (λ q n l e. stuck p q g l) m b x);
      loses = λ m b x. (zero, refl, omega arith);
      won = λ m b e. absurd (let no : ⊥ = cc in no);
      lost = λ m b e. let same : zero ≡ m = cc in subst (Mated leads mate p) same g;
    }
    Gives-below (Loss (suc n)) g = record {
      wins = λ m b x. absurd (not_mating (λ q i l e. let w = g.each q l in let is : labels q ≡ Win w.0 = w.1 in cc) m b x);
      loses = λ m b x. (suc n, refl, loses_by n g m b x);
      won = λ m b e. absurd (let no : ⊥ = cc in no);
      lost = λ m b e.
          let same : suc n ≡ m = cc in
          let x : Mated leads mate p (suc n) =
          inr (
            (g.to, g.move),
            λ q l. let w = g.each q l in Mates-le leads mate w.0 n q w.2
                ((after q l).won w.0 (omega (arith, w.2)) w.1),
          ) in
          subst (Mated leads mate p) same x;
    }
    Gives-below Draw g = record {
      wins = λ m b x. absurd (not_mating g.no_loss m b x);
      loses = λ m b x. absurd (drawn_by g m b x);
      won = λ m b e. absurd (let no : ⊥ = cc in no);
      lost = λ m b e. absurd (let no : ⊥ = cc in no);
    }

  -- a value that is right below every number of plies is the game's
  pub IsGame-from_below : (p : P) (v : Value) → ((k : ℕ) → IsRightBelow leads mate k p v) → IsGame leads mate p v
  IsGame-from_below p (Win n) h = record {
    forced = (h (suc n)).won n (omega arith) refl;
    least = λ m x. let w = (h (suc m)).wins m (omega arith) x in let same : n ≡ w.0 = (let e : Win n ≡ Win w.0 = w.1 in cc) in omega (arith, w.2);
  }
  IsGame-from_below p (Loss n) h = record {
    forced = (h (suc n)).lost n (omega arith) refl;
    least = λ m x. let w = (h (suc m)).loses m (omega arith) x in let same : n ≡ w.0 = (let e : Loss n ≡ Loss w.0 = w.1 in cc) in omega (arith, w.2);
  }
  IsGame-from_below p Draw h = record {
    no_win = λ m x. let w = (h (suc m)).wins m (omega arith) x in let e : Draw ≡ Win w.0 = w.1 in cc;
    no_loss = λ m x. let w = (h (suc m)).loses m (omega arith) x in let e : Draw ≡ Loss w.0 = w.1 in cc;
  }

  -- a value with a mate in fewer plies than those below which it is right is the game's
  pub IsGame-from_near : (k : ℕ) (p : P) (v : Value) → (v ≡ Draw → ⊥) → distance_of v < k → IsRightBelow leads mate k p v → IsGame leads mate p v
  IsGame-from_near k p (Win n) drawn b h = record {
    forced = h.won n b refl;
    least = λ m x. elim (below_or m k) [
      | inl l ↦ let w = h.wins m l x in let same : n ≡ w.0 = (let e : Win n ≡ Win w.0 = w.1 in cc) in omega (arith, w.2)
      | inr l ↦ omega arith
    ];
  }
  IsGame-from_near k p (Loss n) drawn b h = record {
    forced = h.lost n b refl;
    least = λ m x. elim (below_or m k) [
      | inl l ↦ let w = h.loses m l x in let same : n ≡ w.0 = (let e : Loss n ≡ Loss w.0 = w.1 in cc) in omega (arith, w.2)
      | inr l ↦ omega arith
    ];
  }
  IsGame-from_near k p Draw drawn b h = absurd (drawn refl)

  pub below-less : (k j : ℕ) (p : P) (v : Value) → j ≤ k → IsRightBelow leads mate k p v → IsRightBelow leads mate j p v
  below-less k j p v l h = record {
    wins = λ m b x. h.wins m (omega arith) x;
    loses = λ m b x. h.loses m (omega arith) x;
    won = λ m b e. h.won m (omega arith) e;
    lost = λ m b e. h.lost m (omega arith) e;
  }

  -- the value that right labels give is right
  pub IsGame-Gives : (labels : P → Value) (p : P) (w : Value)
      → ((q : P) → leads p q → IsGame leads mate q (labels q)) → GivesValue leads mate labels p w → IsGame leads mate p w
  IsGame-Gives labels p w after g =
      IsGame-from_below p w
      (λ k. below-less (suc k) k p w (omega arith)
      (Gives-below labels k p (λ q l. IsGame-below k q (labels q) (after q l)) w g))

  -- labels are right on a set of positions if each is right, or is the value that the labels after its moves give
  module _ (inside : P → Type 0) (labels : P → Value)
      (each : (p : P) → inside p → IsGame leads mate p (labels p) ⊎ GivesValue leads mate labels p (labels p) × ((q : P) → leads p q → inside q)) where
    pub settled-below : (k : ℕ) (p : P) → inside p → IsRightBelow leads mate k p (labels p)
    settled-below zero p i = record {
      wins = λ m b x. absurd (omega arith);
      loses = λ m b x. absurd (omega arith);
      won = λ m b e. absurd (omega arith);
      lost = λ m b e. absurd (omega arith);
    }
    settled-below (suc k) p i = elim (each p i) [
      | inl h ↦ IsGame-below (suc k) p (labels p) h
      | inr h ↦ Gives-below labels k p (λ q l. settled-below k q (h.1 q l)) (labels p) h.0
    ]

    pub settled : (p : P) → inside p → IsGame leads mate p (labels p)
    settled p i = IsGame-from_below p (labels p) (λ k. settled-below k p i)

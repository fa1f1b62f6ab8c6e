-- Forced mate and the game's value by moves of chess, and by the positions that the moves lead to.
use Rattle.std.proofs.Common.{ℕ, zero, suc, ◌<◌, ◌≤◌, ◌⊎◌, inl, inr, refl, sym, subst, arith}
use Rattle.study_board.specs.Position.{Position}
use Rattle.study_moves.specs.Rules.{after}
use Rattle.study_moves.specs.Game.{IsMate, MatesWithin, IsMatedWithin}
use Rattle.study_moves.specs.Alike.{Leads}
use Rattle.study_values.specs.declared.value.Value.{Value}
use Rattle.study_values.specs.declared.value.Value.TheVariants.{Win, Loss, Draw}
use Rattle.study_table.specs.Forced.{Mated, Mates, IsGame}
use Rattle.study_values.specs.Game.{IsValueOf}

mutual
  pub Mates-from : (n : ℕ) (p : Position) → MatesWithin n p → Mates Leads IsMate p n
  Mates-from zero p h = h
  Mates-from (suc n) p h = (after p h.0, (h.0, h.1, refl), Mated-from n (after p h.0) h.2)

  pub Mated-from : (n : ℕ) (p : Position) → IsMatedWithin n p → Mated Leads IsMate p n
  Mated-from zero p h = h
  Mated-from (suc n) p (inl h) = inl h
  Mated-from (suc n) p (inr h) =
      inr ((after p h.0.0, (h.0.0, h.0.1, refl)), λ q l. subst (λ (x : Position). Mates Leads IsMate x n) l.2 (Mates-from n (after p l.0) (h.1 l.0 l.1)))

mutual
  pub MatesWithin-from : (n : ℕ) (p : Position) → Mates Leads IsMate p n → MatesWithin n p
  MatesWithin-from zero p h = h
  MatesWithin-from (suc n) p h =
      let l = h.1 in
      (l.0, l.1, subst (λ (x : Position). IsMatedWithin n x) (sym l.2) (IsMatedWithin-from n h.0 h.2))

  pub IsMatedWithin-from : (n : ℕ) (p : Position) → Mated Leads IsMate p n → IsMatedWithin n p
  IsMatedWithin-from zero p h = h
  IsMatedWithin-from (suc n) p (inl h) = inl h
  IsMatedWithin-from (suc n) p (inr h) = let l = h.0.1 in inr ((l.0, l.1), λ m e. MatesWithin-from n (after p m) (h.1 (after p m) (m, e, refl)))

least_from : {P : ℕ → Type 0} (n : ℕ) → ((k : ℕ) → k < n → P k → ⊥) → (m : ℕ) → P m → n ≤ m
least_from n h m x = elim (less_or m n) [ inl l ↦ absurd (h m l x) | inr l ↦ l ]
  where
    less_or : (a b : ℕ) → (a < b) ⊎ (b ≤ a)
    less_or a b = grind arith

pub IsGame-from_value : (p : Position) (v : Value) → IsValueOf p v → IsGame Leads IsMate p v
IsGame-from_value p (Win n) h =
    record {
      forced = Mates-from n p h.0;
      least = λ m x. least_from {P = λ k. MatesWithin k p} n
          (λ k l y. h.1 k l y) m (MatesWithin-from m p x);
    }
IsGame-from_value p (Loss n) h =
    record {
      forced = Mated-from n p h.0;
      least = λ m x. least_from {P = λ k. IsMatedWithin k p} n
          (λ k l y. h.1 k l y) m (IsMatedWithin-from m p x);
    }
IsGame-from_value p Draw h = record { no_win = λ n x. (h n).0 (MatesWithin-from n p x); no_loss = λ n x. (h n).1 (IsMatedWithin-from n p x) }

pub IsValueOf-from_game : (p : Position) (v : Value) → IsGame Leads IsMate p v → IsValueOf p v
IsValueOf-from_game p (Win n) h = (MatesWithin-from n p h.forced, λ k l x. let b : n ≤ k = h.least k (Mates-from k p x) in absurd (omega arith))
IsValueOf-from_game p (Loss n) h = (IsMatedWithin-from n p h.forced, λ k l x. let b : n ≤ k = h.least k (Mated-from k p x) in absurd (omega arith))
IsValueOf-from_game p Draw h = λ n. (λ x. h.no_win n (Mates-from n p x), λ x. h.no_loss n (Mated-from n p x))

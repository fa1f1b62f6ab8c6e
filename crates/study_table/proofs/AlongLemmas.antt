-- Positions that have the same moves have the same value.
use Rattle.std.proofs.Common.{◌≡◌, ℕ, zero, suc, inl, inr, sym, ◌∙◌}
use Rattle.study_values.specs.declared.value.Value.{Value}
use Rattle.study_values.specs.declared.value.Value.TheVariants.{Win, Loss, Draw}
use Rattle.study_table.specs.Forced.{Mated, Mates, IsGame, GivesValue, IsRightBelow}

-- a relation that keeps moves and mates, both ways
pub record KeepsMoves {P : Type 0} (leads : P → P → Type 0) (mate : P → Type 0) (Alike : P → P → Type 0) : Type 0 where
  pub back : (p q : P) → Alike p q → Alike q p
  pub move : (p q p' : P) → Alike p q → leads p p' → (q' : P) × leads q q' × Alike p' q'
  pub mated : (p q : P) → Alike p q → mate p → mate q

module _ {P : Type 0} (leads : P → P → Type 0) (mate : P → Type 0) (Alike : P → P → Type 0) (keeps : KeepsMoves leads mate Alike) where
  mutual
    pub Mated-along : (n : ℕ) (p q : P) → Alike p q → Mated leads mate p n → Mated leads mate q n
    Mated-along zero p q r h = keeps.mated p q r h
    Mated-along (suc n) p q r (inl h) = inl (keeps.mated p q r h)
    Mated-along (suc n) p q r (inr h) =
        inr (
          (let m = keeps.move p q h.0.0 r h.0.1 in (m.0, m.1)),
          λ q' l. let b = keeps.move q p q' (keeps.back p q r) l in Mates-along n b.0 q' (keeps.back q' b.0 b.2) (h.1 b.0 b.1),
        )

    pub Mates-along : (n : ℕ) (p q : P) → Alike p q → Mates leads mate p n → Mates leads mate q n
    Mates-along zero p q r h = h
    Mates-along (suc n) p q r h = let m = keeps.move p q h.0 r h.1 in (m.0, m.1, Mated-along n h.0 m.0 m.2 h.2)

  pub IsGame-along : (p q : P) (v : Value) → Alike p q → IsGame leads mate p v → IsGame leads mate q v
  IsGame-along p q (Win n) r h = record { forced = Mates-along n p q r h.forced; least = λ m x. h.least m (Mates-along m q p (keeps.back p q r) x) }
  IsGame-along p q (Loss n) r h = record { forced = Mated-along n p q r h.forced; least = λ m x. h.least m (Mated-along m q p (keeps.back p q r) x) }
  IsGame-along p q Draw r h =
      record {
        no_win = λ m x. h.no_win m (Mates-along m q p (keeps.back p q r) x);
        no_loss = λ m x. h.no_loss m
            (Mated-along m q p (keeps.back p q r) x);
      }

  -- labels that are alike if positions are, for the known positions after the moves
  module _ (known : P → Type 0) (labels : P → Value) (alike : (p q : P) → known p → Alike p q → labels p ≡ labels q) where
    pub Gives-along : (p q : P) (v : Value) → ((p' : P) → leads p p' → known p')
        → ((q' : P) → leads q q' → known q') → Alike p q → GivesValue leads mate labels p v → GivesValue leads mate labels q v
    Gives-along p q (Win zero) kp kq r g = g
    Gives-along p q (Win (suc n)) kp kq r g =
        let m = keeps.move p q g.to r g.move in
        record {
          to = m.0;
          move = m.1;
          is = sym (alike g.to m.0 (kp g.to g.move) m.2) ∙ g.is;
          least = λ q' i l e. let b = keeps.move q p q' (keeps.back p q r) l in g.least b.0 i b.1 (sym (alike q' b.0 (kq q' l) b.2) ∙ e);
        }
    Gives-along p q (Loss zero) kp kq r g = keeps.mated p q r g
    Gives-along p q (Loss (suc n)) kp kq r g =
        let m = keeps.move p q g.to r g.move in
        record {
          to = m.0;
          move = m.1;
          is = sym (alike g.to m.0 (kp g.to g.move) m.2) ∙ g.is;
          each = λ q' l. let b = keeps.move q p q' (keeps.back p q r) l in let w = g.each b.0 b.1 in (w.0, alike q' b.0 (kq q' l) b.2 ∙ w.1, w.2);
        }
    Gives-along p q Draw kp kq r g = record {
      no_loss = λ q' i l e. let b = keeps.move q p q' (keeps.back p q r) l in g.no_loss b.0 i b.1 (sym (alike q' b.0 (kq q' l) b.2) ∙ e);
      holds = elim g.holds [
        | inl h ↦ (let m = keeps.move p q h.0 r h.1 in inl (m.0, m.1, sym (alike h.0 m.0 (kp h.0 h.1) m.2) ∙ h.2))
        | inr h ↦ inr (λ x. h.0 (keeps.mated q p (keeps.back p q r) x), λ q' l. let b = keeps.move q p q' (keeps.back p q r) l in h.1 b.0 b.1)
      ];
    }

  pub IsRightBelow-along : (k : ℕ) (p q : P) (v : Value) → Alike p q → IsRightBelow leads mate k p v → IsRightBelow leads mate k q v
  IsRightBelow-along k p q v r h = record {
    wins = λ m b x. h.wins m b (Mates-along m q p (keeps.back p q r) x);
    loses = λ m b x. h.loses m b (Mated-along m q p (keeps.back p q r) x);
    won = λ n b e. Mates-along n p q r (h.won n b e);
    lost = λ n b e. Mated-along n p q r (h.lost n b e);
  }

-- A tally of the values after some of the moves.
use Rattle.std.proofs.Common.{◌≡◌, ℕ, zero, suc, ◌+◌, ◌<◌, inl, inr, Bool, false, List, [], ◌∷◌, ◌++◌}
use Rattle.std.proofs.Common.{length, get_or, take, Contains, Option, None, arith, sym, subst}
use Rattle.std.proofs.lemmas.List.{take_more}
use Rattle.std.proofs.lemmas.List.Elements.{Contains-push, Contains-push_cases, Contains-append_left}
use Rattle.study_values.specs.declared.value.Value.{Value}
use Rattle.study_values.specs.declared.value.Value.TheVariants.{Win, Loss, Draw}
use Rattle.study_levels.specs.BestReplies.{lost_with, won_with, drawn_with, given_by}
use Rattle.study_table.specs.Forced.{LeadsBy, GivesValue, GivesOutside}
use Rattle.study_levels.proofs.TallyLemmas.{IsTally, IsTally-empty, IsTally-push, Gives-given_by}

-- xs has the moves that pass
pub record IsSieved {M : Type 0} (ok : M → Type 0) (ms xs : List M) : Type 0 where
  pub there : (m : M) → Contains xs m → Contains ms m
  pub passes : (m : M) → Contains xs m → ok m
  pub kept : (m : M) → Contains ms m → ok m → Contains xs m

-- a tally of the moves that pass
abbrev pub IsTallyOf : {M : Type 0} → (M → Type 0) → (M → Value) → List M → Option ℕ → Option ℕ → Bool → Type 0
IsTallyOf {M} ok f ms lost won drawn = (xs : List M) × IsTally f xs lost won drawn × IsSieved ok ms xs

module _ {M : Type 0} (ok : M → Type 0) (f : M → Value) where
  pub IsTallyOf-empty : IsTallyOf ok f [] None None false
  IsTallyOf-empty = ([], IsTally-empty f, record { there = λ m c. c; passes = λ m c. absurd (let b : c.0 < 0 = c.1 in omega arith); kept = λ m c o. c })

  sieved-in : (ms xs : List M) (m : M) → ok m → IsSieved ok ms xs → IsSieved ok (ms ++ m ∷ []) (xs ++ m ∷ [])
  sieved-in ms xs m o s = record {
    there =
        λ y c. elim (Contains-push_cases xs m y c) [
          | inl h ↦ Contains-append_left ms (m ∷ []) y (s.there y h)
          | inr e ↦ subst (λ (z : M). Contains (ms ++ m ∷ []) z) e (Contains-push ms m)
        ];
    passes = λ y c. elim (Contains-push_cases xs m y c) [ inl h ↦ s.passes y h | inr e ↦ subst ok e o ];
    kept =
        λ y c p. elim (Contains-push_cases ms m y c) [
          | inl h ↦ Contains-append_left xs (m ∷ []) y (s.kept y h p)
          | inr e ↦ subst (λ (z : M). Contains (xs ++ m ∷ []) z) e (Contains-push xs m)
        ];
  }

  sieved-out : (ms xs : List M) (m : M) → (ok m → ⊥) → IsSieved ok ms xs → IsSieved ok (ms ++ m ∷ []) xs
  sieved-out ms xs m o s = record {
    there = λ y c. Contains-append_left ms (m ∷ []) y (s.there y c);
    passes = s.passes;
    kept = λ y c p. elim (Contains-push_cases ms m y c) [ inl h ↦ s.kept y h p | inr e ↦ absurd (o (subst ok (sym e) p)) ];
  }

  pub IsTallyOf-in : (ms : List M) (i : ℕ) (d : M) (v : Value) (lost won : Option ℕ) (drawn : Bool) (lost' won' : Option ℕ) (drawn' : Bool)
      → i < length ms → ok (get_or ms i d) → f (get_or ms i d) ≡ v → IsTallyOf ok f (take i ms) lost won drawn
      → lost' ≡ lost_with lost v → won' ≡ won_with won v → drawn' ≡ drawn_with drawn v → IsTallyOf ok f (take (i + 1) ms) lost' won' drawn'
  IsTallyOf-in ms i d v lost won drawn lost' won' drawn' b o e t el ew ed =
      let m = get_or ms i d in
      let more : take (i + 1) ms ≡ take i ms ++ m ∷ [] = take_more ms i d b in
      let pushed : IsTallyOf ok f (take i ms ++ m ∷ []) (lost_with lost v) (won_with won v) (drawn_with drawn v) =
      (t.0 ++ m ∷ [], IsTally-push f t.0 m v lost won drawn e t.1, sieved-in (take i ms) t.0 m o t.2) in
      let P : List M × Option ℕ × Option ℕ × Bool → Type 0 = λ x. IsTallyOf ok f x.0 x.1 x.2 x.3 in
      subst P (λ j. (sym more j, sym el j, sym ew j, sym ed j)) pushed

  pub IsTallyOf-out : (ms : List M) (i : ℕ) (d : M) (lost won : Option ℕ) (drawn : Bool) (lost' won' : Option ℕ) (drawn' : Bool)
      → i < length ms → (ok (get_or ms i d) → ⊥) → IsTallyOf ok f (take i ms) lost won drawn → lost' ≡ lost
      → won' ≡ won → drawn' ≡ drawn → IsTallyOf ok f (take (i + 1) ms) lost' won' drawn'
  IsTallyOf-out ms i d lost won drawn lost' won' drawn' b o t el ew ed =
      let m = get_or ms i d in
      let more : take (i + 1) ms ≡ take i ms ++ m ∷ [] = take_more ms i d b in
      let pushed : IsTallyOf ok f (take i ms ++ m ∷ []) lost won drawn = (t.0, t.1, sieved-out (take i ms) t.0 m o t.2) in
      let P : List M × Option ℕ × Option ℕ × Bool → Type 0 = λ x. IsTallyOf ok f x.0 x.1 x.2 x.3 in
      subst P (λ j. (sym more j, sym el j, sym ew j, sym ed j)) pushed

Gives-leads : {P : Type 0} (l l' : P → P → Type 0) (mate : P → Type 0) (f : P → Value) (p : P)
    → ((q : P) → l p q → l' p q) → ((q : P) → l' p q → l p q) → (v : Value) → GivesValue l mate f p v → GivesValue l' mate f p v
Gives-leads l l' mate f p to from (Win zero) g = g
Gives-leads l l' mate f p to from (Win (suc n)) g = record { to = g.to; move = to g.to g.move; is = g.is; least = λ q m k e. g.least q m (from q k) e }
Gives-leads l l' mate f p to from (Loss zero) g = g
Gives-leads l l' mate f p to from (Loss (suc n)) g = record { to = g.to; move = to g.to g.move; is = g.is; each = λ q k. g.each q (from q k) }
Gives-leads l l' mate f p to from Draw g = record {
  no_loss = λ q m k e. g.no_loss q m (from q k) e;
  holds = elim g.holds [ inl x ↦ inl (x.0, to x.0 x.1, x.2) | inr x ↦ inr (x.0, λ q k. x.1 q (from q k)) ];
}

-- the values after the moves out of the class give the value from those moves alone
pub GivesOutside-given_by : {P M : Type 0} (legal : P → M → Type 0) (after : P → M → P) (home : P → Bool)
    (f : P → Value) (p : P) (ms : List M) → ((m : M) → legal p m → home (after p m) ≡ false → Contains ms m)
    → ((m : M) → Contains ms m → legal p m)
    → (lost won : Option ℕ) (drawn : Bool) → IsTallyOf (λ m. home (after p m) ≡ false) (λ m. f (after p m)) ms lost
    won drawn → GivesOutside (LeadsBy legal after) home f p (given_by false lost won drawn)
GivesOutside-given_by {P} {M} legal after home f p ms all only lost won drawn t =
    Gives-leads (LeadsBy out after) (λ a b. LeadsBy legal after a b × (home b ≡ false)) (λ a. ⊥) f p
    (λ q l. ((l.0, l.1.0, l.2), subst (λ (b : P). home b ≡ false) l.2 l.1.1))
    (λ q l. (l.0.0, (l.0.1, subst (λ (b : P). home b ≡ false) (sym l.0.2) l.1), l.0.2))
    (given_by false lost won drawn)
    (Gives-given_by out after (λ a. ⊥) f p t.0 (λ m l. t.2.kept m (all m l.0 l.1) l.1)
    (λ m c. (only m (t.2.there m c), t.2.passes m c)) false lost won drawn (λ e. cc, λ h. absurd h) t.1)
  where
    out : P → M → Type 0
    out a m = legal a m × (home (after a m) ≡ false)

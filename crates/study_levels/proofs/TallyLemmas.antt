-- The meaning of a tally of the values after some moves.
use Rattle.std.proofs.Common.{◌≡◌, ◌≢◌, ℕ, zero, ◌+◌, ◌<◌, ◌≤◌, min, max, ◌⊎◌, ◌↔◌, inl, inr, Bool}
use Rattle.std.proofs.Common.{true, false, IsTrue, List, [], ◌∷◌, ◌++◌, length, get_or, take, Contains}
use Rattle.std.proofs.Common.{Option, Some, None, arith, sym, ◌∙◌, subst, refl, ap, add-one}
use Rattle.std.proofs.lemmas.List.Elements.{Contains-push, Contains-push_cases, Contains-append_left}
use Rattle.study_values.specs.declared.value.Value.{Value}
use Rattle.study_values.specs.declared.value.Value.TheVariants.{Win, Loss, Draw}
use Rattle.std.proofs.lemmas.List.{take_more}
use Rattle.study_levels.specs.BestReplies.{lost_with, won_with, drawn_with, given_by}
use Rattle.study_table.specs.Forced.{LeadsBy, GivesValue, HasLoss, HasOnlyWins, HasDraw}

-- one of the moves has the value
abbrev pub Seen : {M : Type 0} → (M → Value) → List M → Value → Type 0
Seen {M} f ms v = (m : M) × Contains ms m × (f m ≡ v)

abbrev pub IsNearest : {M : Type 0} → (M → Value) → List M → Option ℕ → Type 0
IsNearest f ms None = (n : ℕ) → Seen f ms (Loss n) → ⊥
IsNearest f ms (Some k) = Seen f ms (Loss k) × ((n : ℕ) → Seen f ms (Loss n) → k ≤ n)

abbrev pub IsFarthest : {M : Type 0} → (M → Value) → List M → Option ℕ → Type 0
IsFarthest f ms None = (n : ℕ) → Seen f ms (Win n) → ⊥
IsFarthest f ms (Some k) = Seen f ms (Win k) × ((n : ℕ) → Seen f ms (Win n) → n ≤ k)

abbrev pub TellsDraw : {M : Type 0} → (M → Value) → List M → Bool → Type 0
TellsDraw f ms true = Seen f ms Draw
TellsDraw f ms false = Seen f ms Draw → ⊥

-- the summary of the values of the moves
pub record IsTally {M : Type 0} (f : M → Value) (ms : List M) (lost won : Option ℕ) (drawn : Bool) : Type 0 where
  pub nearest : IsNearest f ms lost
  pub farthest : IsFarthest f ms won
  pub draw : TellsDraw f ms drawn

module _ {M : Type 0} (f : M → Value) where
  seen-none : (v : Value) → Seen f [] v → ⊥
  seen-none v s = absurd (let k = s.1 in let b : k.0 < zero = k.1 in omega arith)

  pub IsTally-empty : IsTally f [] None None false
  IsTally-empty = record { nearest = λ n s. seen-none (Loss n) s; farthest = λ n s. seen-none (Win n) s; draw = λ s. seen-none Draw s }

  module _ (ms : List M) (m : M) where
    seen-more : (v : Value) → Seen f ms v → Seen f (ms ++ m ∷ []) v
    seen-more v s = (s.0, Contains-append_left ms (m ∷ []) s.0 s.1, s.2)

    seen-last : (v : Value) → f m ≡ v → Seen f (ms ++ m ∷ []) v
    seen-last v e = (m, Contains-push ms m, e)

    seen-cases : (v : Value) → Seen f (ms ++ m ∷ []) v → Seen f ms v ⊎ (f m ≡ v)
    seen-cases v s = elim (Contains-push_cases ms m s.0 s.1) [
      | inl c ↦ inl (s.0, c, s.2)
      | inr e ↦ inr (ap f e ∙ s.2)
    ]

    -- a value that the last move does not have was seen before
    seen-before : (v : Value) → f m ≢ v → Seen f (ms ++ m ∷ []) v → Seen f ms v
    seen-before v other s = elim (seen-cases v s) [ inl h ↦ h | inr e ↦ absurd (other e) ]

    nearest-same : (lost : Option ℕ) → ((n : ℕ) → f m ≢ Loss n) → IsNearest f ms lost → IsNearest f (ms ++ m ∷ []) lost
    nearest-same None other h = λ n s. h n (seen-before (Loss n) (other n) s)
    nearest-same (Some k) other h = (seen-more (Loss k) h.0, λ n s. h.1 n (seen-before (Loss n) (other n) s))

    farthest-same : (won : Option ℕ) → ((n : ℕ) → f m ≢ Win n) → IsFarthest f ms won → IsFarthest f (ms ++ m ∷ []) won
    farthest-same None other h = λ n s. h n (seen-before (Win n) (other n) s)
    farthest-same (Some k) other h = (seen-more (Win k) h.0, λ n s. h.1 n (seen-before (Win n) (other n) s))

    draw-same : (drawn : Bool) → f m ≢ Draw → TellsDraw f ms drawn → TellsDraw f (ms ++ m ∷ []) drawn
    draw-same true other h = seen-more Draw h
    draw-same false other h = λ s. h (seen-before Draw other s)

    at_most_or : (k n : ℕ) → (k ≤ n) ⊎ (n ≤ k)
    at_most_or k n = grind arith

    same_loss : (i n : ℕ) → f m ≡ Loss i → f m ≡ Loss n → i ≡ n
    same_loss i n e e' = cc

    same_win : (i n : ℕ) → f m ≡ Win i → f m ≡ Win n → i ≡ n
    same_win i n e e' = cc

    nearest-loss : (lost : Option ℕ) (i : ℕ) → f m ≡ Loss i → IsNearest f ms lost → IsNearest f (ms ++ m ∷ []) (lost_with lost (Loss i))
    nearest-loss None i e h = (seen-last (Loss i) e, λ n s. elim (seen-cases (Loss n) s) [ inl b ↦ absurd (h n b) | inr l ↦ omega (arith, same_loss i n e l) ])
    nearest-loss (Some k) i e h = (
      elim (at_most_or k i) [
        | inl l ↦ (let is : k ≡ min k i = omega arith in subst (λ j. Seen f (ms ++ m ∷ []) (Loss j)) is (seen-more (Loss k) h.0))
        | inr l ↦ (let is : i ≡ min k i = omega arith in subst (λ j. Seen f (ms ++ m ∷ []) (Loss j)) is (seen-last (Loss i) e))
      ],
      λ n s. elim (seen-cases (Loss n) s) [ inl b ↦ omega (arith, h.1 n b) | inr l ↦ omega (arith, same_loss i n e l) ],
    )

    farthest-win : (won : Option ℕ) (i : ℕ) → f m ≡ Win i → IsFarthest f ms won → IsFarthest f (ms ++ m ∷ []) (won_with won (Win i))
    farthest-win None i e h = (seen-last (Win i) e, λ n s. elim (seen-cases (Win n) s) [ inl b ↦ absurd (h n b) | inr l ↦ omega (arith, same_win i n e l) ])
    farthest-win (Some k) i e h = (
      elim (at_most_or k i) [
        | inr l ↦ (let is : k ≡ max k i = omega arith in subst (λ j. Seen f (ms ++ m ∷ []) (Win j)) is (seen-more (Win k) h.0))
        | inl l ↦ (let is : i ≡ max k i = omega arith in subst (λ j. Seen f (ms ++ m ∷ []) (Win j)) is (seen-last (Win i) e))
      ],
      λ n s. elim (seen-cases (Win n) s) [ inl b ↦ omega (arith, h.1 n b) | inr l ↦ omega (arith, same_win i n e l) ],
    )

    lost_same : (lost : Option ℕ) (v : Value) → ((n : ℕ) → v ≢ Loss n) → lost_with lost v ≡ lost
    lost_same lost (Loss n) other = absurd (other n refl)
    lost_same None (Win n) other = refl
    lost_same (Some k) (Win n) other = refl
    lost_same None Draw other = refl
    lost_same (Some k) Draw other = refl

    won_same : (won : Option ℕ) (v : Value) → ((n : ℕ) → v ≢ Win n) → won_with won v ≡ won
    won_same won (Win n) other = absurd (other n refl)
    won_same None (Loss n) other = refl
    won_same (Some k) (Loss n) other = refl
    won_same None Draw other = refl
    won_same (Some k) Draw other = refl

    pub IsTally-push : (v : Value) (lost won : Option ℕ) (drawn : Bool) → f m ≡ v → IsTally f ms lost won drawn
        → IsTally f (ms ++ m ∷ []) (lost_with lost v) (won_with won v) (drawn_with drawn v)
    IsTally-push (Loss i) lost won drawn e t = record {
      nearest = nearest-loss lost i e t.nearest;
      farthest = subst (IsFarthest f (ms ++ m ∷ [])) (sym (won_same won (Loss i) (λ n x. cc)))
          (farthest-same won (λ n x. let y : Loss i ≡ Win n = sym e ∙ x in cc) t.farthest);
      draw = draw-same drawn (λ x. let y : Loss i ≡ Draw = sym e ∙ x in cc) t.draw;
    }
    IsTally-push (Win i) lost won drawn e t = record {
      nearest = subst (IsNearest f (ms ++ m ∷ [])) (sym (lost_same lost (Win i) (λ n x. cc)))
          (nearest-same lost (λ n x. let y : Win i ≡ Loss n = sym e ∙ x in cc) t.nearest);
      farthest = farthest-win won i e t.farthest;
      draw = draw-same drawn (λ x. let y : Win i ≡ Draw = sym e ∙ x in cc) t.draw;
    }
    IsTally-push Draw lost won drawn e t = record {
      nearest = subst (IsNearest f (ms ++ m ∷ [])) (sym (lost_same lost Draw (λ n x. cc)))
          (nearest-same lost (λ n x. let y : Draw ≡ Loss n = sym e ∙ x in cc) t.nearest);
      farthest = subst (IsFarthest f (ms ++ m ∷ [])) (sym (won_same won Draw (λ n x. cc)))
          (farthest-same won (λ n x. let y : Draw ≡ Win n = sym e ∙ x in cc) t.farthest);
      draw = seen-last Draw e;
    }

-- the summary of the labels after all of a position's moves gives the position's value
module _ {P M : Type 0} (legal : P → M → Type 0) (after : P → M → P) (mate : P → Type 0) (labels : P → Value) (p : P)
    (ms : List M) (all : (m : M) → legal p m → Contains ms m) (only : (m : M) → Contains ms m → legal p m) where
  abbrev Found : Value → Type 0
  Found v = Seen (λ m. labels (after p m)) ms v

  move_of : (v : Value) (s : Found v) → LeadsBy legal after p (after p s.0)
  move_of v s = (s.0, only s.0 s.1, refl)

  found : (q : P) (v : Value) → LeadsBy legal after p q → labels q ≡ v → Found v
  found q v l e = (l.0, all l.0 l.1, ap labels l.2 ∙ e)

  given-lost : (n : ℕ) → IsNearest (λ m. labels (after p m)) ms (Some n) → HasLoss (LeadsBy legal after) labels p n
  given-lost n h = record {
    to = after p h.0.0;
    move = move_of (Loss n) h.0;
    is = h.0.2;
    least = λ q m l e. h.1 m (found q (Loss m) l e);
  }

  given-drawn : ((n : ℕ) → Found (Loss n) → ⊥) → Found Draw → HasDraw (LeadsBy legal after) mate labels p
  given-drawn unlost s = record {
    no_loss = λ q m l e. unlost m (found q (Loss m) l e);
    holds = inl (after p s.0, move_of Draw s, s.2);
  }

  given-won : (n : ℕ) → ((k : ℕ) → Found (Loss k) → ⊥) → (Found Draw → ⊥)
      → IsFarthest (λ m. labels (after p m)) ms (Some n) → HasOnlyWins (LeadsBy legal after) labels p n
  given-won n unlost undrawn h = record {
    to = after p h.0.0;
    move = move_of (Win n) h.0;
    is = h.0.2;
    each = λ q l. by_value q l (labels q) refl;
  }
    where
      by_value : (q : P) → LeadsBy legal after p q → (v : Value) → labels q ≡ v → (m : ℕ) × (labels q ≡ Win m) × (m ≤ n)
      by_value q l (Win m) e = (m, e, h.1 m (found q (Win m) l e))
      by_value q l (Loss m) e = absurd (unlost m (found q (Loss m) l e))
      by_value q l Draw e = absurd (undrawn (found q Draw l e))

  none_found : ((n : ℕ) → Found (Loss n) → ⊥) → (Found Draw → ⊥) → ((n : ℕ) → Found (Win n) → ⊥) → (q : P) → LeadsBy legal after p q → ⊥
  none_found unlost undrawn unwon q l = by_value (labels q) refl
    where
      by_value : (v : Value) → labels q ≡ v → ⊥
      by_value (Win m) e = unwon m (found q (Win m) l e)
      by_value (Loss m) e = unlost m (found q (Loss m) l e)
      by_value Draw e = undrawn (found q Draw l e)

  abbrev Given : Value → Type 0
  Given v = GivesValue (LeadsBy legal after) mate labels p v

  pub Gives-given_by : (mated : Bool) (lost won : Option ℕ) (drawn : Bool) → IsTrue mated ↔ mate p
      → IsTally (λ m. labels (after p m)) ms lost won drawn
      → GivesValue (LeadsBy legal after) mate labels p (given_by mated lost won drawn)
  Gives-given_by mated (Some n) won drawn tells t = subst (λ (k : ℕ). Given (Win k)) (sym (add-one n)) (given-lost n t.nearest)
  Gives-given_by mated None won true tells t = given-drawn t.nearest t.draw
  Gives-given_by mated None (Some n) false tells t = subst (λ (k : ℕ). Given (Loss k)) (sym (add-one n)) (given-won n t.nearest t.draw t.farthest)
  Gives-given_by true None None false tells t = tells.0 refl
  Gives-given_by false None None false tells t = record {
    no_loss = λ q m l e. t.nearest m (found q (Loss m) l e);
    holds = inr (λ h. (let e : false ≡ true = tells.1 h in cc), none_found t.nearest t.draw t.farthest);
  }

-- a loop's step over the moves
pub IsTally-take : {M : Type 0} (f : M → Value) (ms : List M) (i : ℕ) (d : M) (v : Value) (lost won : Option ℕ)
    (drawn : Bool) (lost' won' : Option ℕ) (drawn' : Bool)
    → i < length ms → f (get_or ms i d) ≡ v → IsTally f (take i ms) lost won drawn
    → lost' ≡ lost_with lost v → won' ≡ won_with won v → drawn' ≡ drawn_with drawn v
    → IsTally f (take (i + 1) ms) lost' won' drawn'
IsTally-take {M} f ms i d v lost won drawn lost' won' drawn' b e t el ew ed =
    let more : take (i + 1) ms ≡ take i ms ++ get_or ms i d ∷ [] = take_more ms i d b in
    let pushed = IsTally-push f (take i ms) (get_or ms i d) v lost won drawn e t in
    let P : List M × Option ℕ × Option ℕ × Bool → Type 0 = λ x. IsTally f x.0 x.1 x.2 x.3 in
    subst P (λ j. (sym more j, sym el j, sym ew j, sym ed j)) pushed

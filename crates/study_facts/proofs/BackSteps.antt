-- The positions that some or each of the legal moves lead to, by their list.
use Rattle.std.proofs.Common.{◌≡◌, ℕ, ◌-◌, ◌+◌, ◌<◌, ◌≤◌, Bool, true, false, List, [], ◌∷◌, inl}
use Rattle.std.proofs.Common.{inr, Result, Ok, Err, IfOk, ◌↔◌, length, suc, zero, arith, refl, sym, subst, ◌∙◌}
use Rattle.std.specs.List.{Contains}
use Rattle.std.specs.Prelude.{slice_index_or, nat_lt}
use Rattle.std.proofs.lemmas.Bool.{false≢true, ltb-true, ltb-false}
use Rattle.study_board.specs.Position.{Position}
use Rattle.study_moves.specs.declared.moves.Move.{Move}
use Rattle.study_moves.specs.Rules.{is_legal, after}
use Rattle.study_moves.specs.Laws.{EachHasAtMostOneValue}
use Rattle.study_values.specs.declared.value.Value.{Value}
use Rattle.study_values.specs.declared.value.Value.TheVariants.{Win, Loss, Draw}
use Rattle.study_values.specs.Game.{IsValueOf}
use Rattle.study_marks.specs.Goals.{hero_loses}
use Rattle.study_facts.specs.Repetition.{is_in_history, HasLost, IsNear, IsRepeatableWithin}
use Rattle.study_facts.specs.Leads.{SomeLeads, EachLeads, AllWinsRepeat, MustRepeat}

-- by the value
pub lost-by : EachHasAtMostOneValue → (p : Position) (v : Value) → IsValueOf p v → (hero_loses true v ≡ true) ↔ HasLost p
lost-by law p (Loss n) h = (λ e. (n, h), λ x. refl)
lost-by law p (Win n) h = (λ e. absurd (false≢true e), λ x. absurd ((law p).won_not_lost n x.0 h x.1))
lost-by law p Draw h = (λ e. absurd (false≢true e), λ x. absurd ((law p).lost_not_drawn x.0 x.1 h))

-- these are the legal moves
abbrev pub AreLegal : Position → List Move → Type 0
AreLegal q ms = (m : Move) → Contains ms m ↔ (is_legal q m ≡ true)

some-at : (P : Position → Type 0) (q : Position) (ms : List Move) (m : Move) (k : ℕ) → k < length ms → slice_index_or ms k m ≡ m
    → P (after q m) → SomeLeads P q ms
some-at P q [] m k l e h = absurd (omega (arith, l))
some-at P q (n ∷ ms) m zero l e h = inl (subst (λ (x : Move). P (after q x)) (sym e) h)
some-at P q (n ∷ ms) m (suc k) l e h = inr (some-at P q ms m k (let z : k < length ms = omega (arith, l) in z) e h)

some-to : (P : Position → Type 0) (q : Position) (ms : List Move) → SomeLeads P q ms → (m : Move) × Contains ms m × P (after q m)
some-to P q [] h = absurd h
some-to P q (m ∷ ms) (inl h) = (m, (0, (let z : 0 < length (m ∷ ms) = omega arith in z), refl), h)
some-to P q (m ∷ ms) (inr h) =
    let x = some-to P q ms h in
    (x.0, (suc x.1.0, (let z : suc x.1.0 < length (m ∷ ms) = omega (arith, x.1.1) in z), x.1.2), x.2)

each-at : (P : Position → Type 0) (q : Position) (ms : List Move) → EachLeads P q ms → (m : Move) (k : ℕ) → k < length ms
    → slice_index_or ms k m ≡ m → P (after q m)
each-at P q [] h m k l e = absurd (omega (arith, l))
each-at P q (n ∷ ms) h m zero l e = subst (λ (x : Move). P (after q x)) e h.0
each-at P q (n ∷ ms) h m (suc k) l e = each-at P q ms h.1 m k (let z : k < length ms = omega (arith, l) in z) e

each-from : (P : Position → Type 0) (q : Position) (ms : List Move) → ((m : Move) → Contains ms m → P (after q m)) → EachLeads P q ms
each-from P q [] f = tt
each-from P q (n ∷ ms) f = (
  f n (0, (let z : 0 < length (n ∷ ms) = omega arith in z), refl),
  each-from P q ms (λ m c. f m (suc c.0, (let z : suc c.0 < length (n ∷ ms) = omega (arith, c.1) in z), c.2)),
)

pub near-by : (line : List Position) (q : Position) (ms : List Move) (b : Bool) → is_in_history line q ≡ false → AreLegal q ms
    → ((b ≡ true) ↔ SomeLeads (λ r. is_in_history line r ≡ true) q ms) → (b ≡ true) ↔ IsNear line q
near-by line q ms b away legal h = (
  (λ e. let x = some-to (λ r. is_in_history line r ≡ true) q ms (h.0 e) in inr (x.0, (legal x.0).0 x.1, x.2)),
  (λ n. elim n [
    | inl s ↦ absurd (false≢true (sym away ∙ s))
    | inr y ↦ let c = (legal y.0).1 y.1 in h.1 (some-at (λ r. is_in_history line r ≡ true) q ms y.0 c.0 c.1 c.2 y.2)
  ]),
)

pub goes-by : (line : List Position) (m : ℕ) (r : Position) (ms : List Move) (b : Bool) → AreLegal r ms
    → ((b ≡ true) ↔ AllWinsRepeat line m r false ms) → (b ≡ true) ↔ MustRepeat line m r
goes-by line m r ms b legal h = (
  (λ e. let x = h.0 e in (
    (elim x.0 [
      | inl e2 ↦ absurd (false≢true e2)
      | inr some ↦ let y = some-to HasLost r ms some in (y.0, ((legal y.0).0 y.1, y.2))
    ]),
    (λ n w. let c = (legal n).1 w.0 in each-at (λ s. HasLost s → IsRepeatableWithin line m s) r ms x.1 n c.0 c.1 c.2 w.1),
  )),
  (λ g. h.1 (
    inr (let c = (legal g.0.0).1 g.0.1.0 in some-at HasLost r ms g.0.0 c.0 c.1 c.2 g.0.1.1),
    each-from (λ s. HasLost s → IsRepeatableWithin line m s) r ms (λ n c lost. g.1 n ((legal n).0 c, lost)),
  )),
)

pub back-by : (line : List Position) (m : ℕ) (q : Position) (ms : List Move) (b : Bool) → (IsNear line q → ⊥) → (m ≡ 0 → ⊥)
    → AreLegal q ms → ((b ≡ true) ↔ SomeLeads (MustRepeat line (m - 1)) q ms) → (b ≡ true) ↔ IsRepeatableWithin line m q
back-by line zero q ms b far some legal h = absurd (some refl)
back-by line (suc m) q ms b far some legal h =
    let one : suc m - 1 ≡ m = omega arith in
    let g = subst (λ k. (b ≡ true) ↔ SomeLeads (MustRepeat line k) q ms) one h in (
      (λ e. let x = some-to (MustRepeat line m) q ms (g.0 e) in inr (x.0, (legal x.0).0 x.1, x.2.0, x.2.1)),
      (λ n. elim n [
        | inl near ↦ absurd (far near)
        | inr y ↦ let c = (legal y.0).1 y.1 in g.1 (some-at (MustRepeat line m) q ms y.0 c.0 c.1 c.2 (y.2, y.3))
      ]),
    )

pub if-ok : {T E : Type 0} (P Q : T → Type 0) (r : Result T E) → ((x : T) → P x → Q x) → IfOk r P → IfOk r Q
if-ok P Q (Ok x) f h = f x h
if-ok P Q (Err e) f h = tt

pub some-later : {E : Type 0} (P : Position → Type 0) (q : Position) (m : Move) (ms rest : List Move) (next : Position) (w : Bool) (r : Result Bool E)
    → ms ≡ m ∷ rest → next ≡ after q m → w ≡ false → ((w ≡ true) ↔ P next) → IfOk r (λ b. (b ≡ true) ↔ SomeLeads P q rest)
    → IfOk r (λ b. (b ≡ true) ↔ SomeLeads P q ms)
some-later P q m ms rest next w r e n is h g =
    let none : P (after q m) → ⊥ = λ x. false≢true (sym is ∙ h.1 (subst P (sym n) x)) in
    if-ok (λ b. (b ≡ true) ↔ SomeLeads P q rest) (λ b. (b ≡ true) ↔ SomeLeads P q ms) r
    (λ b k. subst (λ (l : List Move). (b ≡ true) ↔ SomeLeads P q l) (sym e) (
      (λ t. inr (k.0 t)),
      (λ s. elim s [ inl x ↦ absurd (none x) | inr y ↦ k.1 y ]),
    )) g

-- and not within m
pub none-more : (line : List Position) (q : Position) (m : ℕ) (b : Bool) → ((k : ℕ) → k < m → ¬ (IsRepeatableWithin line k q)) → b ≡ false
    → ((b ≡ true) ↔ IsRepeatableWithin line m q) → (k : ℕ) → k < m + 1 → ¬ (IsRepeatableWithin line k q)
none-more line q m b h e now k l back = go (nat_lt k m) refl
  where
    go : (c : Bool) → nat_lt k m ≡ c → ⊥
    go true f = h k (ltb-true k m f) back
    go false f =
        let least : m ≤ k = ltb-false k m f in
        let same : k ≡ m = omega (arith, least, l) in
        false≢true (sym e ∙ now.1 (subst (λ n. IsRepeatableWithin line n q) same back))
